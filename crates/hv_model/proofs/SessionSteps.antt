-- One more reply of one of many sessions: what held between two answers holds behind it.
use Rattle.std.proofs.Common.{◌≡◌, ℕ, ◌+◌, ◌-◌, ◌<◌, ◌≤◌, false, cond, List, [], ◌∷◌, ◌++◌, length, Some, None, inl, inr, refl, ap, sym, ◌∙◌, subst, arith, le_refl, append-nil, lt-ltb, le-ltb, length-append}
use Rattle.std.specs.List.{slice_get}
use Rattle.std.proofs.lemmas.Bool.{cases_lt, cases_eq}
use Rattle.std.proofs.lemmas.List.{length_push}
use Rattle.hv_model.specs.declared.script.Statement.{Statement}
use Rattle.hv_model.specs.declared.script.Script.{Script}
use Rattle.hv_model.specs.declared.catalogue.Entry.{Entry}
use Rattle.hv_model.specs.declared.reply.Reply.{Reply}
use Rattle.hv_model.specs.declared.reply.Reply.TheVariants.{Done}
use Rattle.hv_model.specs.Command.{database_after}
use Rattle.hv_model.specs.Legal.{number_of, is_done, reply_to, done_before, count_of_session, Stands, Names, Accepted, FollowsNumber, EntriesAreDone, WithinPhases}
use Rattle.hv_model.specs.Sessions.{HasSessions, statements_before, count_before, LegalInPhase, upper_in_phase, IsNext, with_reply, last_number, IsSeen, IsTold, SessionSoFar}
use Rattle.hv_model.proofs.Histories.{entry_at-more, entry_at-last, database_after-kept, follows}
use Rattle.hv_model.proofs.SessionScripts.{same_place, same_phase, before_le, in_phase, IsInPhase}
use Rattle.hv_model.proofs.SessionReplies.{next_in_phase, reply_to-next, reply_to-more, reply_to-kept, later_none, done_le, done_earlier, done_present, count_before_all, lists_more, answers_more}
use Rattle.hv_model.proofs.SessionFacts.{session_longer, session_more, last_reached, legal_from_sessions, session_from_legal}

-- the greatest number of a phase that has ended, and of another
pub upper_ended : (s : Script) (p : ℕ) (history : List Entry) (replies : List (List Reply)) (q : ℕ) → q < p → upper_in_phase s p history replies q ≡ done_before s replies (q + 1)
upper_ended s p history replies q below = rw (lt-ltb q p below) refl

pub upper_open : (s : Script) (p : ℕ) (history : List Entry) (replies : List (List Reply)) (q : ℕ) → p ≤ q → upper_in_phase s p history replies q ≡ length history
upper_open s p history replies q from = rw (le-ltb q p from) refl

-- no number is above the present length
pub upper_most : (s : Script) (max : ℕ) (known : Type 0) (p : ℕ) (history : List Entry) (replies : List (List Reply)) → LegalInPhase s max known p history replies
    → (q : ℕ) → upper_in_phase s p history replies q ≤ length history
upper_most s max known p history replies legal q =
    elim (cases_lt q p) [
      | inl ended ↦ (let is : upper_in_phase s p history replies q ≡ done_before s replies (q + 1) = upper_ended s p history replies q ended in
          let le : done_before s replies (q + 1) ≤ done_before s replies (p + 1) = done_le s replies (q + 1) (p + 1) (omega arith) in
          let counted : done_before s replies (p + 1) ≡ length history = legal.counted in
          omega arith)
      | inr present ↦ (let is : upper_in_phase s p history replies q ≡ length history = upper_open s p history replies q present in omega arith)
    ]

-- the facts of each session
pub session_facts : (s : Script) → HasSessions s → (max : ℕ) (known : Type 0) (p : ℕ) (history : List Entry) (replies : List (List Reply)) → LegalInPhase s max known p history replies
    → (i : ℕ) (name : List ℕ) (rs : List Reply) → slice_get s.sessions i ≡ Some name → slice_get replies i ≡ Some rs → SessionSoFar s max known history name rs
session_facts s has max known p history replies legal i name rs at_i is =
    let short : length rs ≤ count_before s name (p + 1) = legal.answers.short i name rs at_i is in
    let all : count_before s name (p + 1) ≤ count_of_session s name = count_before_all s name (p + 1) in
    session_from_legal s has max known (upper_in_phase s p history replies) history replies (upper_most s max known p history replies legal) legal.parts i name rs at_i is (omega arith)

-- the numbers within their phases, with one more
phases_more : (s : Script) → HasSessions s → (max : ℕ) (known : Type 0) (p : ℕ) (history longer : List Entry) (replies : List (List Reply)) (x : Statement) (at : ℕ) (rs : List Reply) (r : Reply)
    → LegalInPhase s max known p history replies → IsNext s p replies x at rs → length history ≤ length longer → done_before s replies p ≤ number_of r → number_of r ≤ length longer
    → WithinPhases s (with_reply replies at rs r) (upper_in_phase s p longer (with_reply replies at rs r))
phases_more s has max known p history longer replies x at rs r legal next longer_is low high q k phase y t at_q at_k reply =
    let new : List (List Reply) = with_reply replies at rs r in
    let place : IsInPhase s q (length (statements_before s q) + k) y = in_phase s q k phase y at_q at_k in
    let own : IsInPhase s p (length (statements_before s p) + next.place) x = next_in_phase s p replies x at rs next in
    let stands : Stands s y = (length (statements_before s q) + k, place.stands) in
    elim (reply_to-more s has p replies x at rs r legal.answers.lists next y t stands reply) [
      | inl old ↦ (let within : (done_before s replies q ≤ number_of t) × (number_of t ≤ upper_in_phase s p history replies q) = legal.parts.phases q k phase y t at_q at_k old in
          let from : done_before s replies q ≤ number_of t = within.0 in
          let to : number_of t ≤ upper_in_phase s p history replies q = within.1 in
          elim (cases_lt q p) [
            | inl ended ↦ (let a : done_before s new q ≡ done_before s replies q = done_earlier s has p replies x at rs r legal.answers.lists next q (omega arith) in
                let b : done_before s new (q + 1) ≡ done_before s replies (q + 1) = done_earlier s has p replies x at rs r legal.answers.lists next (q + 1) (omega arith) in
                let c : upper_in_phase s p history replies q ≡ done_before s replies (q + 1) = upper_ended s p history replies q ended in
                let d : upper_in_phase s p longer new q ≡ done_before s new (q + 1) = upper_ended s p longer new q ended in
                (omega arith, omega arith))
            | inr open' ↦ (elim (cases_eq q p) [
              | inl same ↦ (let a : done_before s new q ≡ done_before s replies q = done_earlier s has p replies x at rs r legal.answers.lists next q (omega arith) in
                  let c : upper_in_phase s p history replies q ≡ length history = upper_open s p history replies q open' in
                  let d : upper_in_phase s p longer new q ≡ length longer = upper_open s p longer new q open' in
                  (omega arith, omega arith))
              | inr later ↦ absurd (let le : length (statements_before s (p + 1)) ≤ length (statements_before s q) = before_le s (p + 1) q (omega arith) in
                  let none : reply_to s replies y ≡ None = later_none s has p replies legal.answers (length (statements_before s q) + k) y (omega arith) place.stands in
                  let e : None ≡ Some t = sym none ∙ old in cc)
            ])
          ])
      | inr last ↦ (let is : x ≡ y = last.0 in
          let same : length (statements_before s q) + k ≡ length (statements_before s p) + next.place
          = same_place s has (length (statements_before s q) + k) (length (statements_before s p) + next.place) y x place.stands own.stands
          (ap (λ (z : Statement). z.session) (sym is)) (ap (λ (z : Statement). z.number) (sym is)) in
          let here : IsInPhase s p (length (statements_before s q) + k) x = rw same own in
          let phases : q ≡ p = same_phase s q p (length (statements_before s q) + k) y x place here in
          let number : number_of r ≡ number_of t = ap (λ (z : Reply). number_of z) last.1 in
          let a : done_before s new q ≡ done_before s replies q = done_earlier s has p replies x at rs r legal.answers.lists next q (omega arith) in
          let b : done_before s replies q ≡ done_before s replies p = ap (λ (n : ℕ). done_before s replies n) phases in
          let d : upper_in_phase s p longer new q ≡ length longer = upper_open s p longer new q (omega arith) in
          (omega arith, omega arith))
    ]

-- one more reply of the present phase, with no entry or one: told over the longer history, behind its session's, and with the receipts of all entries
legal_more : (s : Script) → HasSessions s → (max : ℕ) (known : Type 0) (p : ℕ) (history more longer : List Entry) (replies : List (List Reply)) (x : Statement) (at : ℕ) (rs : List Reply) (r : Reply)
    → LegalInPhase s max known p history replies → IsNext s p replies x at rs → longer ≡ history ++ more → length longer ≡ length history + cond (is_done r) 1 0
    → IsTold s max known longer x r → number_of r ≤ length longer → FollowsNumber (last_number rs) r → done_before s replies p ≤ number_of r
    → EntriesAreDone s longer (with_reply replies at rs r) → LegalInPhase s max known p longer (with_reply replies at rs r)
legal_more s has max known p history more longer replies x at rs r legal next is length_is told reached follow low entries =
    let own : IsInPhase s p (length (statements_before s p) + next.place) x = next_in_phase s p replies x at rs next in
    let stands : Stands s x = (length (statements_before s p) + next.place, own.stands) in
    let facts : (i : ℕ) (name : List ℕ) (list : List Reply) → slice_get s.sessions i ≡ Some name → slice_get replies i ≡ Some list → SessionSoFar s max known longer name list =
    (λ i name list at_i here. rw is (session_longer s max known history more name list (session_facts s has max known p history replies legal i name list at_i here))) in
    let no_less : length history ≤ length longer = rw is (rw (length-append history more) (omega arith)) in
    record {
      answers = answers_more s has p replies x at rs r legal.answers next;
      counted = (let a : done_before s (with_reply replies at rs r) (p + 1) ≡ done_before s replies (p + 1) + cond (is_done r) 1 0
          = done_present s has p replies x at rs r legal.answers.lists next in
          let b : done_before s replies (p + 1) ≡ length history = legal.counted in
          omega arith);
      parts = legal_from_sessions s has max known (upper_in_phase s p longer (with_reply replies at rs r)) longer (with_reply replies at rs r)
          (answers_more s has p replies x at rs r legal.answers next).lists
          (λ i name list at_i here. elim (lists_more s p replies x at rs r next i name list at_i here) [
            | inl mine ↦ subst (λ (l : List Reply). SessionSoFar s max known longer name l) mine.1
                (subst (λ (n : List ℕ). SessionSoFar s max known longer n (rs ++ r ∷ [])) mine.0
                (session_more s has max known longer rs x r (facts at x.session rs next.session next.replies_are) stands next.number told reached follow))
            | inr old ↦ facts i name list at_i old
          ])
          entries
          (phases_more s has max known p history longer replies x at rs r legal next no_less low reached);
    }

-- an accepted command of the next statement, with its entry behind all others
pub legal_appended : (s : Script) → HasSessions s → (max : ℕ) (known : Type 0) (p : ℕ) (history : List Entry) (replies : List (List Reply)) (x : Statement) (at : ℕ) (rs : List Reply) (e : Entry)
    → LegalInPhase s max known p history replies → IsNext s p replies x at rs → Names e x → Accepted x (database_after s history (length history)) e.what
    → LegalInPhase s max known p (history ++ e ∷ []) (with_reply replies at rs (Done (length history + 1) e.what))
legal_appended s has max known p history replies x at rs e legal next names accepted =
    let r : Reply = Done (length history + 1) e.what in
    let longer : List Entry = history ++ e ∷ [] in
    let own : IsInPhase s p (length (statements_before s p) + next.place) x = next_in_phase s p replies x at rs next in
    let stands : Stands s x = (length (statements_before s p) + next.place, own.stands) in
    let length_is : length longer ≡ length history + 1 = length_push history e in
    let before : length history + 1 - 1 ≡ length history = omega arith in
    let told : IsTold s max known longer x r = (
      record { entry = e; stands = entry_at-last history e (length history + 1) refl; names = names; told = refl },
      rw (before, database_after-kept s history e (length history) (le_refl (length history))) accepted,
    ) in
    let last : last_number rs ≤ length history = last_reached s max known history x.session rs (session_facts s has max known p history replies legal at x.session rs next.session next.replies_are) in
    let low : done_before s replies p ≤ done_before s replies (p + 1) = done_le s replies p (p + 1) (omega arith) in
    let counted : done_before s replies (p + 1) ≡ length history = legal.counted in
    legal_more s has max known p history (e ∷ []) longer replies x at rs r legal next refl length_is told (omega arith) (omega arith) (omega arith)
    (λ n f at_n. elim (entry_at-more history e n f at_n) [
      | inl old ↦ (let receipt = legal.parts.entries n f old.stands in
          (receipt.0, receipt.1, receipt.2, reply_to-kept s has p replies x at rs r legal.answers.lists next receipt.0 (Done n f.what) receipt.1 receipt.3))
      | inr last ↦ (
        x,
        stands,
        subst (λ (g : Entry). Names g x) last.same names,
        (let m : length history + 1 ≡ n = sym last.at in
            let w : e.what ≡ f.what = ap (λ (g : Entry). g.what) last.same in
            rw (sym m, sym w) (reply_to-next s has p replies x at rs r next)),
      )
    ])

-- a reply without an entry, at a length that was seen
pub legal_seen : (s : Script) → HasSessions s → (max : ℕ) (known : Type 0) (p : ℕ) (history : List Entry) (replies : List (List Reply)) (x : Statement) (at : ℕ) (rs : List Reply) (r : Reply)
    → LegalInPhase s max known p history replies → IsNext s p replies x at rs → is_done r ≡ false → IsSeen s p history replies rs (number_of r) → IsTold s max known history x r
    → LegalInPhase s max known p history (with_reply replies at rs r)
legal_seen s has max known p history replies x at rs r legal next not_done seen told =
    let length_is : length history ≡ length history + cond (is_done r) 1 0 = rw not_done (omega arith) in
    legal_more s has max known p history [] history replies x at rs r legal next (sym (append-nil history)) length_is told seen.reached
    (follows (last_number rs) r not_done seen.after_own) seen.after_phases
    (λ n f at_n. let receipt = legal.parts.entries n f at_n in
    (receipt.0, receipt.1, receipt.2, reply_to-kept s has p replies x at rs r legal.answers.lists next receipt.0 (Done n f.what) receipt.1 receipt.3))
