-- Many sessions from phase to phase: the start, the next phase, the end.
use Rattle.std.proofs.Common.{◌≡◌, ℕ, ◌+◌, ◌-◌, ◌≤◌, List, [], length, Option, Some, None, IsSome, is_some, true, false, inl, inr, refl, ap, sym, ◌∙◌, arith, take_all, le_refl}
use Rattle.std.specs.List.{slice_get}
use Rattle.std.proofs.lemmas.Bool.{cases_lt, cases_eq}
use Rattle.std.proofs.lemmas.Option.{slice_get_past}
use Rattle.hv_model.specs.declared.script.Statement.{Statement}
use Rattle.hv_model.specs.declared.script.Script.{Script}
use Rattle.hv_model.specs.declared.catalogue.Entry.{Entry}
use Rattle.hv_model.specs.declared.reply.Reply.{Reply}
use Rattle.hv_model.specs.Legal.{number_of, is_done_option, reply_to, done_before, count_of_session, Stands, LegalUpTo, Legal}
use Rattle.hv_model.specs.Sessions.{HasSessions, statements_before, count_before, AllReplied, LegalInPhase, upper_in_phase}
use Rattle.hv_model.proofs.Places.{count_none, map_agree}
use Rattle.hv_model.proofs.Histories.{no_entry}
use Rattle.hv_model.proofs.SessionScripts.{before_stands, in_phase}
use Rattle.hv_model.proofs.SessionReplies.{HasList, has_list, reply_to-at, done_le, done_later, count_before_le, count_before_all}
use Rattle.hv_model.proofs.SessionFacts.{IsNumbered, numbered}
use Rattle.hv_model.proofs.SessionSteps.{upper_ended, upper_open}

-- no reply in empty lists
none_yet : (s : Script) → HasSessions s → (replies : List (List Reply)) → length replies ≡ length s.sessions
    → ((i : ℕ) (rs : List Reply) → slice_get replies i ≡ Some rs → rs ≡ []) → (x : Statement) → Stands s x → reply_to s replies x ≡ None
none_yet s has replies lists empty x stands =
    let list : HasList s replies x = has_list s has replies lists x stands in
    list.reply ∙ (rw (empty list.at list.of_session list.is) refl)

-- the start: no entry, and no reply in the list of any session
pub legal_start : (s : Script) → HasSessions s → (max : ℕ) (known : Type 0) (replies : List (List Reply)) → length replies ≡ length s.sessions
    → ((i : ℕ) (rs : List Reply) → slice_get replies i ≡ Some rs → rs ≡ []) → LegalInPhase s max known 0 [] replies
legal_start s has max known replies lists empty =
    let none : (x : Statement) → Stands s x → reply_to s replies x ≡ None = none_yet s has replies lists empty in
    let nothing : (x : Statement) (r : Reply) → Stands s x → reply_to s replies x ≡ Some r → ⊥ =
    (λ x r stands reply. let e : None ≡ Some r = sym (none x stands) ∙ reply in cc) in
    record {
      answers = record {
        lists = lists;
        short = (λ i name rs at is. rw (empty i rs is) (omega arith));
        replied = (λ k x at. absurd cc);
      };
      counted = count_none (λ x. is_done_option (reply_to s replies x)) (statements_before s (0 + 1))
          (λ k x at. ap (λ (r : Option Reply). is_done_option r) (none x (k, before_stands s (0 + 1) k x at)));
      parts = record {
        entries = (λ n e at. absurd (no_entry n e at));
        done = (λ x n what stands reply. absurd (nothing x _ stands reply));
        steps = (λ n e x at stands names. absurd (no_entry n e at));
        along = (λ x y r q at_x at_y session below reply_x reply_y. absurd (nothing x r at_x reply_x));
        phases = (λ p k phase x r at_p at_k reply. absurd (nothing x r (length (statements_before s p) + k, (in_phase s p k phase x at_p at_k).stands) reply));
        rows = (λ x n rows stands reply. absurd (nothing x _ stands reply));
        refused = (λ x n cause stands reply. absurd (nothing x _ stands reply));
        failed = (λ x n cause stands reply. absurd (nothing x _ stands reply));
      };
    }

-- greater numbers may be allowed
pub legal_up_to : (s : Script) (max : ℕ) (known : Type 0) (upper higher : ℕ → ℕ) (history : List Entry) (replies : List (List Reply))
    → ((p : ℕ) → upper p ≤ higher p) → LegalUpTo s max known upper history replies → LegalUpTo s max known higher history replies
legal_up_to s max known upper higher history replies le legal = record {
  entries = legal.entries;
  done = legal.done;
  steps = legal.steps;
  along = legal.along;
  phases = (λ p k phase x r at_p at_k reply.
      let within = legal.phases p k phase x r at_p at_k reply in
      let below : number_of r ≤ upper p = within.1 in
      let more : upper p ≤ higher p = le p in
      (within.0, omega arith));
  rows = legal.rows;
  refused = legal.refused;
  failed = legal.failed;
}

-- the next phase, where each statement up to this one's end has its reply
pub legal_next_phase : (s : Script) → HasSessions s → (max : ℕ) (known : Type 0) (p : ℕ) (history : List Entry) (replies : List (List Reply))
    → LegalInPhase s max known p history replies → AllReplied s replies (p + 1) → LegalInPhase s max known (p + 1) history replies
legal_next_phase s has max known p history replies legal all =
    let counted : done_before s replies (p + 1) ≡ length history = legal.counted in record {
      answers = record {
        lists = legal.answers.lists;
        short = (λ i name rs at is.
            let now : length rs ≤ count_before s name (p + 1) = legal.answers.short i name rs at is in
            let more : count_before s name (p + 1) ≤ count_before s name (p + 1 + 1) = count_before_le s name (p + 1) (p + 1 + 1) (omega arith) in
            omega arith);
        replied = all;
      };
      counted = (let same : done_before s replies (p + 1 + 1) ≡ done_before s replies (p + 1) = done_later s has p replies legal.answers (p + 1 + 1) (omega arith) in omega arith);
      parts = legal_up_to s max known (upper_in_phase s p history replies) (upper_in_phase s (p + 1) history replies) history replies
          (λ q. elim (cases_lt q (p + 1)) [
            | inl ended ↦ (let new : upper_in_phase s (p + 1) history replies q ≡ done_before s replies (q + 1) = upper_ended s (p + 1) history replies q ended in
                elim (cases_eq q p) [
                  | inl same ↦ (let old : upper_in_phase s p history replies q ≡ length history = upper_open s p history replies q (omega arith) in
                      let here : done_before s replies (q + 1) ≡ done_before s replies (p + 1) = ap (λ (n : ℕ). done_before s replies (n + 1)) same in
                      omega arith)
                  | inr apart ↦ (let old : upper_in_phase s p history replies q ≡ done_before s replies (q + 1) = upper_ended s p history replies q (omega arith) in omega arith)
                ])
            | inr present ↦ (let new : upper_in_phase s (p + 1) history replies q ≡ length history = upper_open s (p + 1) history replies q present in
                let old : upper_in_phase s p history replies q ≡ length history = upper_open s p history replies q (omega arith) in
                omega arith)
          ])
          legal.parts;
    }

-- a session that has the reply to each of its statements has as many as statements
full : (s : Script) → HasSessions s → (replies : List (List Reply)) → ((x : Statement) → Stands s x → IsSome (reply_to s replies x))
    → (i : ℕ) (name : List ℕ) (rs : List Reply) → slice_get s.sessions i ≡ Some name → slice_get replies i ≡ Some rs → count_of_session s name ≤ length rs
full s has replies all i name rs at is =
    elim (cases_lt (length rs) (count_of_session s name)) [
      | inl below ↦ (let x : IsNumbered s name (length rs) = numbered s has name (length rs) below in
          let number : x.statement.number ≡ length rs + 1 = x.number in
          let past : reply_to s replies x.statement ≡ None
          = reply_to-at s has replies i x.statement rs (rw x.session at) is ∙ slice_get_past rs (x.statement.number - 1) (omega arith) in
          let some : is_some (reply_to s replies x.statement) ≡ true = all x.statement x.stands in
          absurd (let none : is_some (reply_to s replies x.statement) ≡ false = ap (λ (r : Option Reply). is_some r) past in cc))
      | inr enough ↦ enough
    ]

-- the end: where each statement of all phases has its reply, the outcome is legal
pub legal_end : (s : Script) → HasSessions s → (max : ℕ) (known : Type 0) (p : ℕ) (history : List Entry) (replies : List (List Reply))
    → LegalInPhase s max known p history replies → AllReplied s replies (length s.phases) → Legal s max known history replies
legal_end s has max known p history replies legal all =
    let counted : done_before s replies (p + 1) ≡ length history = legal.counted in
    let each : (x : Statement) → Stands s x → IsSome (reply_to s replies x) = (λ x stands. all stands.0 x (rw (take_all (length s.phases) s.phases (le_refl (length s.phases))) stands.1)) in record {
      once = record {
        some = each;
        counts = map_agree (λ of_session. length of_session) (count_of_session s) replies s.sessions legal.answers.lists (λ i rs name is at.
            let short : length rs ≤ count_before s name (p + 1) = legal.answers.short i name rs at is in
            let part : count_before s name (p + 1) ≤ count_of_session s name = count_before_all s name (p + 1) in
            let whole : count_of_session s name ≤ length rs = full s has replies each i name rs at is in
            omega arith);
      };
      parts = legal_up_to s max known (upper_in_phase s p history replies) (λ q. done_before s replies (q + 1)) history replies
          (λ q. elim (cases_lt q p) [
            | inl ended ↦ (let old : upper_in_phase s p history replies q ≡ done_before s replies (q + 1) = upper_ended s p history replies q ended in omega arith)
            | inr present ↦ (let old : upper_in_phase s p history replies q ≡ length history = upper_open s p history replies q present in
                let le : done_before s replies (p + 1) ≤ done_before s replies (q + 1) = done_le s replies (p + 1) (q + 1) (omega arith) in
                omega arith)
          ])
          legal.parts;
    }
