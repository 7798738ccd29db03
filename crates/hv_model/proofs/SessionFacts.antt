-- The facts of one session's replies: a longer history keeps them, one more reply joins them, and those of all sessions make a legal outcome so far.
use Rattle.std.proofs.Common.{◌≡◌, ℕ, zero, suc, ◌+◌, ◌-◌, ◌<◌, ◌≤◌, List, [], ◌∷◌, ◌++◌, length, take, get_or, count_by, fold, Some, inl, inr, refl, ap, sym, ◌∙◌, subst, arith, length-append}
use Rattle.std.specs.List.{slice_get}
use Rattle.std.proofs.lemmas.Bool.{cases_eq}
use Rattle.std.proofs.lemmas.Option.{slice_get_within, slice_get-get_or}
use Rattle.std.proofs.lemmas.List.Sums.{fold_push}
use Rattle.hv_row.specs.Schema.{same_name}
use Rattle.hv_model.specs.declared.script.Statement.{Statement}
use Rattle.hv_model.specs.declared.script.Script.{Script}
use Rattle.hv_model.specs.declared.catalogue.Detail.{Detail}
use Rattle.hv_model.specs.declared.catalogue.Entry.{Entry}
use Rattle.hv_model.specs.declared.reply.Reply.{Reply}
use Rattle.hv_model.specs.declared.reply.Reply.TheVariants.{Done, Rows, Refused, Failed}
use Rattle.hv_model.specs.Command.{statements, database_after}
use Rattle.hv_model.specs.Legal.{number_of, reply_to, Stands, count_of_session, Accepted, FollowsNumber, EntriesAreDone, WithinPhases, LegalUpTo}
use Rattle.hv_model.specs.Sessions.{HasSessions, HasEntry, IsTold, SessionSoFar, last_number}
use Rattle.hv_model.proofs.Places.{slice_get-more, IsPassing, passing, IsWithin, within_lists}
use Rattle.hv_model.proofs.Histories.{database_after-longer, entry_at-longer, along_more}
use Rattle.hv_model.proofs.SessionScripts.{same_name-true, same_statement, same_named, above_zero}
use Rattle.hv_model.proofs.SessionReplies.{HasList, has_list, reply_to-at}

-- a reply that says so over a history says so over a longer one
pub told_longer : (s : Script) (max : ℕ) (known : Type 0) (history more : List Entry) (x : Statement) (r : Reply) → number_of r ≤ length history
    → IsTold s max known history x r → IsTold s max known (history ++ more) x r
told_longer s max known history more x (Done n what) reached told =
    let had : HasEntry history x n what = told.0 in (
      record { entry = had.entry; stands = entry_at-longer history more n had.entry had.stands; names = had.names; told = had.told },
      rw (database_after-longer s history more (n - 1) (omega arith)) told.1,
    )
told_longer s max known history more x (Rows n rows) reached told = rw (database_after-longer s history more n reached) told
told_longer s max known history more x (Refused n cause) reached told = rw (database_after-longer s history more n reached) told
told_longer s max known history more x (Failed n cause) reached told = told

-- what is said of a session's replies over a history holds over any longer one
pub session_longer : (s : Script) (max : ℕ) (known : Type 0) (history more : List Entry) (name : List ℕ) (of_session : List Reply)
    → SessionSoFar s max known history name of_session → SessionSoFar s max known (history ++ more) name of_session
session_longer s max known history more name of_session facts = record {
  told = (λ x r stands session reply. told_longer s max known history more x r (facts.reached (x.number - 1) r reply) (facts.told x r stands session reply));
  along = facts.along;
  reached = (λ k r reply. let le : number_of r ≤ length history = facts.reached k r reply in rw (length-append history more) (omega arith));
}

-- a number that may be followed is not above the reply's
pub follows_le : (n : ℕ) (r : Reply) → FollowsNumber n r → n ≤ number_of r
follows_le n (Done at what) follows = omega arith
follows_le n (Rows at rows) follows = follows
follows_le n (Refused at cause) follows = follows
follows_le n (Failed at cause) follows = follows

-- what follows a number follows each that is less
pub follows_less : (n m : ℕ) (r : Reply) → n ≤ m → FollowsNumber m r → FollowsNumber n r
follows_less n m (Done at what) le follows = omega arith
follows_less n m (Rows at rows) le follows = omega arith
follows_less n m (Refused at cause) le follows = omega arith
follows_less n m (Failed at cause) le follows = omega arith

-- the last number is the last reply's
last_is : (a : ℕ) (rs : List Reply) (k : ℕ) (q : Reply) → k + 1 ≡ length rs → slice_get rs k ≡ Some q → fold (λ n r. number_of r) a rs ≡ number_of q
last_is a [] k q last at = absurd (cc)
last_is a (r ∷ []) zero q last at = let same : r ≡ q = cc in ap (λ (p : Reply). number_of p) same
last_is a (r ∷ []) (suc k) q last at = absurd (cc)
last_is a (r ∷ p ∷ rs) zero q last at = absurd (omega arith)
last_is a (r ∷ p ∷ rs) (suc k) q last at = last_is (number_of r) (p ∷ rs) k q (omega arith) at

-- and one more reply's is the last
pub last_number-more : (rs : List Reply) (r : Reply) → last_number (rs ++ r ∷ []) ≡ number_of r
last_number-more rs r = fold_push (λ (n : ℕ) (q : Reply). number_of q) 0 rs r

-- a session's numbers are at most its last
up_to_last : (rs : List Reply) → ((j k : ℕ) (r q : Reply) → j < k → slice_get rs j ≡ Some r → slice_get rs k ≡ Some q → FollowsNumber (number_of r) q)
    → (k : ℕ) (r : Reply) → slice_get rs k ≡ Some r → number_of r ≤ last_number rs
up_to_last rs along k r at =
    let within : k < length rs = slice_get_within rs k r at in
    let q : Reply = get_or rs (length rs - 1) r in
    let end : slice_get rs (length rs - 1) ≡ Some q = slice_get-get_or rs (length rs - 1) r (omega arith) in
    let last : last_number rs ≡ number_of q = last_is 0 rs (length rs - 1) q (omega arith) end in
    elim (cases_eq k (length rs - 1)) [
      | inl same ↦ (let here : slice_get rs (length rs - 1) ≡ Some r = rw same at at in
          let is : r ≡ q = (let e : Some r ≡ Some q = sym here ∙ end in cc) in
          let number : number_of r ≡ number_of q = ap (λ (p : Reply). number_of p) is in
          omega arith)
      | inr apart ↦ (let le : number_of r ≤ number_of q = follows_le (number_of r) q (along k (length rs - 1) r q (omega arith) at end) in omega arith)
    ]

-- a session's last number is at most the length
pub last_reached : (s : Script) (max : ℕ) (known : Type 0) (history : List Entry) (name : List ℕ) (rs : List Reply)
    → SessionSoFar s max known history name rs → last_number rs ≤ length history
last_reached s max known history name [] facts = omega arith
last_reached s max known history name (r ∷ rs) facts =
    let q : Reply = get_or (r ∷ rs) (length rs) r in
    let end : slice_get (r ∷ rs) (length rs) ≡ Some q = slice_get-get_or (r ∷ rs) (length rs) r (omega arith) in
    let last : last_number (r ∷ rs) ≡ number_of q = last_is 0 (r ∷ rs) (length rs) q (omega arith) end in
    let le : number_of q ≤ length history = facts.reached (length rs) q end in
    omega arith

-- one more reply of a session, which is told and follows the last
pub session_more : (s : Script) → HasSessions s → (max : ℕ) (known : Type 0) (history : List Entry) (rs : List Reply) (x : Statement) (r : Reply)
    → SessionSoFar s max known history x.session rs → Stands s x → x.number ≡ length rs + 1 → IsTold s max known history x r → number_of r ≤ length history
    → FollowsNumber (last_number rs) r → SessionSoFar s max known history x.session (rs ++ r ∷ [])
session_more s has max known history rs x r facts stands number told reached follows = record {
  told = (λ y q stands_y session reply. elim (slice_get-more rs r (y.number - 1) q reply) [
    | inl old ↦ facts.told y q stands_y session old.stands
    | inr last ↦ (let above : 0 < y.number = above_zero s has y stands_y in
        let at : y.number - 1 ≡ length rs = last.at in
        let is : x ≡ y = same_statement s has x y stands stands_y (sym session) (omega arith) in
        subst (λ (z : Reply). IsTold s max known history y z) last.same (subst (λ (z : Statement). IsTold s max known history z r) is told))
  ]);
  along = along_more rs r (last_number rs) facts.along (up_to_last rs facts.along) (λ n le. follows_less n (last_number rs) r le follows);
  reached = (λ k q reply. elim (slice_get-more rs r k q reply) [
    | inl old ↦ facts.reached k q old.stands
    | inr last ↦ subst (λ (z : Reply). number_of z ≤ length history) last.same reached
  ]);
}

-- before its first statement
pub session_start : (s : Script) (max : ℕ) (known : Type 0) (history : List Entry) (name : List ℕ) → SessionSoFar s max known history name []
session_start s max known history name = record {
  told = (λ x r stands session reply. absurd cc);
  along = (λ j k r q below at_j at_k. absurd cc);
  reached = (λ k r reply. absurd cc);
}

-- the reply to a statement, in the facts of its session
told_at : (s : Script) → HasSessions s → (max : ℕ) (known : Type 0) (history : List Entry) (replies : List (List Reply)) → length replies ≡ length s.sessions
    → ((i : ℕ) (name : List ℕ) (rs : List Reply) → slice_get s.sessions i ≡ Some name → slice_get replies i ≡ Some rs → SessionSoFar s max known history name rs)
    → (x : Statement) (r : Reply) → Stands s x → reply_to s replies x ≡ Some r → IsTold s max known history x r
told_at s has max known history replies lists facts x r stands reply =
    let list : HasList s replies x = has_list s has replies lists x stands in
    (facts list.at x.session list.of_session list.session list.is).told x r stands refl (sym list.reply ∙ reply)

-- the facts of all sessions and the receipts of the entries make the parts of a legal outcome
pub legal_from_sessions : (s : Script) → HasSessions s → (max : ℕ) (known : Type 0) (upper : ℕ → ℕ) (history : List Entry) (replies : List (List Reply))
    → length replies ≡ length s.sessions
    → ((i : ℕ) (name : List ℕ) (rs : List Reply) → slice_get s.sessions i ≡ Some name → slice_get replies i ≡ Some rs → SessionSoFar s max known history name rs)
    → EntriesAreDone s history replies → WithinPhases s replies upper → LegalUpTo s max known upper history replies
legal_from_sessions s has max known upper history replies lists facts entries phases =
    let told : (x : Statement) (r : Reply) → Stands s x → reply_to s replies x ≡ Some r → IsTold s max known history x r = told_at s has max known history replies lists facts in record {
      entries = entries;
      done = (λ x n what stands reply. let had = (told x (Done n what) stands reply).0 in (had.entry, had.stands, had.names, had.told));
      steps = (λ n e x at stands names. let receipt = entries n e at in
          let is : receipt.0 ≡ x = same_named s has e receipt.0 x receipt.1 stands receipt.2 names in
          subst (λ (z : Statement). Accepted z (database_after s history (n - 1)) e.what) is (told receipt.0 (Done n e.what) receipt.1 receipt.3).1);
      along = (λ x y r q stands_x stands_y session below reply_x reply_y.
          let first : HasList s replies x = has_list s has replies lists x stands_x in
          let second : HasList s replies y = has_list s has replies lists y stands_y in
          let named : slice_get s.sessions second.at ≡ Some x.session = rw session second.session in
          let same : second.at ≡ first.at = has.distinct second.at first.at x.session named first.session in
          let list : second.of_session ≡ first.of_session = (let e : slice_get replies first.at ≡ Some second.of_session = rw same at second.is in
          let f : Some second.of_session ≡ Some first.of_session = sym e ∙ first.is in cc) in
          let at_y : slice_get first.of_session (y.number - 1) ≡ Some q = rw list at (sym second.reply ∙ reply_y) in
          let above : 0 < x.number = above_zero s has x stands_x in
          (facts first.at x.session first.of_session first.session first.is).along (x.number - 1) (y.number - 1) r q (omega arith) (sym first.reply ∙ reply_x) at_y);
      phases = phases;
      rows = (λ x n rows stands reply. told x (Rows n rows) stands reply);
      refused = (λ x n cause stands reply. told x (Refused n cause) stands reply);
      failed = (λ x n cause stands reply. told x (Failed n cause) stands reply);
    }

-- what a legal outcome so far says of a reply
told_from : (s : Script) (max : ℕ) (known : Type 0) (upper : ℕ → ℕ) (history : List Entry) (replies : List (List Reply)) → LegalUpTo s max known upper history replies
    → (x : Statement) (r : Reply) → Stands s x → reply_to s replies x ≡ Some r → IsTold s max known history x r
told_from s max known upper history replies legal x (Done n what) stands reply =
    let had = legal.done x n what stands reply in (
      record { entry = had.0; stands = had.1; names = had.2; told = had.3 },
      subst (λ (w : Detail). Accepted x (database_after s history (n - 1)) w) had.3 (legal.steps n had.0 x had.1 stands had.2),
    )
told_from s max known upper history replies legal x (Rows n rows) stands reply = legal.rows x n rows stands reply
told_from s max known upper history replies legal x (Refused n cause) stands reply = legal.refused x n cause stands reply
told_from s max known upper history replies legal x (Failed n cause) stands reply = legal.failed x n cause stands reply

-- a statement of a session, by its number
pub record IsNumbered (s : Script) (name : List ℕ) (n : ℕ) : Type 0 where
  pub statement : Statement
  pub stands : Stands s statement
  pub session : statement.session ≡ name
  pub number : statement.number ≡ n + 1

pub numbered : (s : Script) → HasSessions s → (name : List ℕ) (n : ℕ) → n < count_of_session s name → IsNumbered s name n
numbered s has name n below =
    let found : IsPassing (λ x. same_name x.session name) (statements s) n = passing (λ x. same_name x.session name) (statements s) n below in
    let session : found.element.session ≡ name = same_name-true found.element.session name found.passes in
    let number : found.element.number ≡ count_by (λ y. same_name y.session found.element.session) (take found.place (statements s)) + 1 = has.numbered found.place found.element found.stands in
    record {
      statement = found.element;
      stands = (found.place, found.stands);
      session = session;
      number = (rw session at number) ∙ ap (λ (m : ℕ). m + 1) found.counted;
    }

-- the facts of one session, from a legal outcome so far with no number above the length
pub session_from_legal : (s : Script) → HasSessions s → (max : ℕ) (known : Type 0) (upper : ℕ → ℕ) (history : List Entry) (replies : List (List Reply))
    → ((p : ℕ) → upper p ≤ length history) → LegalUpTo s max known upper history replies
    → (i : ℕ) (name : List ℕ) (rs : List Reply) → slice_get s.sessions i ≡ Some name → slice_get replies i ≡ Some rs → length rs ≤ count_of_session s name
    → SessionSoFar s max known history name rs
session_from_legal s has max known upper history replies most legal i name rs at_i is short =
    let reply : (x : Statement) → x.session ≡ name → reply_to s replies x ≡ slice_get rs (x.number - 1) =
    (λ x session. reply_to-at s has replies i x rs (rw session at_i) is) in
    let place : (k : ℕ) (r : Reply) → slice_get rs k ≡ Some r → IsNumbered s name k = (λ k r at. numbered s has name k (omega (arith, slice_get_within rs k r at))) in
    let replied : (k : ℕ) (r : Reply) (at : slice_get rs k ≡ Some r) → reply_to s replies (place k r at).statement ≡ Some r =
    (λ k r at. let x = place k r at in
    let n : x.statement.number - 1 ≡ k = (let e : x.statement.number ≡ k + 1 = x.number in omega arith) in
    reply x.statement x.session ∙ (rw n at)) in record {
      told = (λ x r stands session at. told_from s max known upper history replies legal x r stands (reply x session ∙ at));
      along = (λ j k r q below at_j at_k.
          let x = place j r at_j in
          let y = place k q at_k in
          let m : x.statement.number ≡ j + 1 = x.number in
          let n : y.statement.number ≡ k + 1 = y.number in
          legal.along x.statement y.statement r q x.stands y.stands (x.session ∙ sym y.session) (omega arith) (replied j r at_j) (replied k q at_k));
      reached = (λ k r at.
          let x = place k r at in
          let phase : IsWithin s.phases x.statement = within_lists s.phases x.stands.0 x.statement x.stands.1 in
          let le : number_of r ≤ upper phase.list = (legal.phases phase.list phase.place phase.elements x.statement r phase.list_is phase.stands (replied k r at)).1 in
          let most_p : upper phase.list ≤ length history = most phase.list in
          omega arith);
    }
