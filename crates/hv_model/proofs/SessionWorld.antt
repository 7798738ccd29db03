-- Many sessions in one world: each session's next statement, the lengths that it may tell while others go on, the database, and a statement that is
-- answered at once.
use Rattle.std.proofs.Common.{◌≡◌, ◌≢◌, ℕ, ◌+◌, ◌-◌, ◌<◌, ◌≤◌, true, false, List, [], ◌∷◌, ◌++◌, length, take, count_by, Option, Some, None, Ok, is_some, inl, inr, refl, ap, sym, ◌∙◌, arith, le_refl, le_of_lt}
use Rattle.std.specs.List.{slice_get}
use Rattle.std.proofs.lemmas.Bool.{cases_lt}
use Rattle.std.proofs.lemmas.Option.{slice_get_within, slice_get_past}
use Rattle.hv_row.specs.Schema.{same_name}
use Rattle.hv_model.specs.declared.script.Statement.{Statement}
use Rattle.hv_model.specs.declared.script.Script.{Script}
use Rattle.hv_model.specs.declared.catalogue.Entry.{Entry}
use Rattle.hv_model.specs.declared.reply.Reply.{Reply}
use Rattle.hv_model.specs.declared.reply.Reply.TheVariants.{Done, Rows, Refused, Failed}
use Rattle.hv_model.specs.Database.{RowDatabase, RowCommand, step}
use Rattle.hv_model.specs.Command.{statements, after_entry, command_at, database_after}
use Rattle.hv_model.specs.Legal.{number_of, is_done, reply_to, done_before, Stands, Names, Accepted}
use Rattle.hv_model.specs.Settled.{Settles, Stays}
use Rattle.hv_model.specs.Sessions.{HasSessions, statements_before, count_before, RepliesInPhase, LegalInPhase, IsNext, with_reply, IsSeen, IsTold}
use Rattle.hv_model.proofs.Places.{IsPassing, passing, IsWithin, within_lists, slice_get-front, slice_get-taken, slice_get-set_other}
use Rattle.hv_model.proofs.Histories.{database_after-more}
use Rattle.hv_model.proofs.SessionScripts.{same_name-true, statement_named-is, before_stands, taken_front, GoesOn, before_goes_on, IsInPhase, in_phase, number_in_phase}
use Rattle.hv_model.proofs.SessionReplies.{next_in_phase, reply_to-at, done_le, done_earlier}
use Rattle.hv_model.proofs.SessionFacts.{last_reached}
use Rattle.hv_model.proofs.SessionSteps.{session_facts, legal_appended, legal_seen}

-- the statement of a session's next reply stands in the script
pub next_stands : (s : Script) (p : ℕ) (replies : List (List Reply)) (x : Statement) (at : ℕ) (rs : List Reply) → IsNext s p replies x at rs → Stands s x
next_stands s p replies x at rs next = (length (statements_before s p) + next.place, (next_in_phase s p replies x at rs next).stands)

-- a statement of the present phase is its session's next where the session has as many replies as statements before it
pub next_at : (s : Script) → HasSessions s → (p : ℕ) (replies : List (List Reply)) (phase : List Statement) (j : ℕ) (x : Statement) (at : ℕ) (rs : List Reply)
    → slice_get s.phases p ≡ Some phase → slice_get phase j ≡ Some x → slice_get s.sessions at ≡ Some x.session → slice_get replies at ≡ Some rs
    → length rs ≡ count_before s x.session p + count_by (λ y. same_name y.session x.session) (take j phase) → IsNext s p replies x at rs
next_at s has p replies phase j x at rs at_p at_j session is counted = record {
  phase = phase;
  place = j;
  phase_is = at_p;
  stands = at_j;
  session = session;
  replies_are = is;
  number = number_in_phase s has p j phase x at_p at_j ∙ ap (λ (n : ℕ). n + 1) (sym counted);
}

-- the next statement of another session stays its next
pub next_kept : (s : Script) (p : ℕ) (replies : List (List Reply)) (x y : Statement) (at other : ℕ) (rs others : List Reply) (r : Reply) → other ≢ at
    → IsNext s p replies y other others → IsNext s p (with_reply replies at rs r) y other others
next_kept s p replies x y at other rs others r apart next = record {
  phase = next.phase;
  place = next.place;
  phase_is = next.phase_is;
  stands = next.stands;
  session = next.session;
  replies_are = slice_get-set_other replies at other (rs ++ r ∷ []) apart ∙ next.replies_are;
  number = next.number;
}

-- the present length may be told
pub seen_present : (s : Script) → HasSessions s → (max : ℕ) (known : Type 0) (p : ℕ) (history : List Entry) (replies : List (List Reply)) (i : ℕ) (name : List ℕ) (rs : List Reply)
    → LegalInPhase s max known p history replies → slice_get s.sessions i ≡ Some name → slice_get replies i ≡ Some rs → IsSeen s p history replies rs (length history)
seen_present s has max known p history replies i name rs legal at is = record {
  reached = le_refl (length history);
  after_own = last_reached s max known history name rs (session_facts s has max known p history replies legal i name rs at is);
  after_phases = (let le : done_before s replies p ≤ done_before s replies (p + 1) = done_le s replies p (p + 1) (omega arith) in
      let counted : done_before s replies (p + 1) ≡ length history = legal.counted in
      omega arith);
}

-- and a length that was seen may still be told when another session has gone on
pub seen_kept : (s : Script) → HasSessions s → (p : ℕ) (history longer : List Entry) (replies : List (List Reply)) (x : Statement) (at : ℕ) (rs others : List Reply) (r : Reply) (n : ℕ)
    → length replies ≡ length s.sessions → IsNext s p replies x at rs → length history ≤ length longer
    → IsSeen s p history replies others n → IsSeen s p longer (with_reply replies at rs r) others n
seen_kept s has p history longer replies x at rs others r n lists next no_less seen = record {
  reached = (let le : n ≤ length history = seen.reached in omega arith);
  after_own = seen.after_own;
  after_phases = (let same : done_before s (with_reply replies at rs r) p ≡ done_before s replies p = done_earlier s has p replies x at rs r lists next p (le_refl p) in
      let le : done_before s replies p ≤ n = seen.after_phases in
      omega arith);
}

-- the database behind an appended entry
pub database_appended : (s : Script) → HasSessions s → (before new : RowDatabase) (history : List Entry) (x : Statement) (e : Entry) (c : RowCommand)
    → before ≡ database_after s history (length history) → Stands s x → Names e x → command_at x before ≡ Ok c → step before c ≡ Ok new
    → new ≡ database_after s (history ++ e ∷ []) (length (history ++ e ∷ []))
database_appended s has before new history x e c is stands names command steps =
    let entry : after_entry (λ rows. rows) s before e ≡ new = rw (statement_named-is s has e x stands names) (rw command (rw steps refl)) in
    sym (database_after-more s history e ∙ (rw (sym is) entry))

-- a reply at the present length, without a change
stays_legal : (s : Script) → HasSessions s → (max : ℕ) (known : Type 0) (p : ℕ) (before new : RowDatabase) (history longer : List Entry) (replies : List (List Reply)) (x : Statement) (at : ℕ)
    (rs : List Reply) (r : Reply) → LegalInPhase s max known p history replies → IsNext s p replies x at rs → Stays before history (number_of r) new longer → is_done r ≡ false
    → IsTold s max known history x r → LegalInPhase s max known p longer (with_reply replies at rs r)
stays_legal s has max known p before new history longer replies x at rs r legal next stays not_done told =
    rw stays.same_history (legal_seen s has max known p history replies x at rs r legal next not_done
    (rw stays.at_is (seen_present s has max known p history replies at x.session rs legal next.session next.replies_are)) told)

-- a statement of the present phase, answered at once
pub legal_settled : (s : Script) → HasSessions s → (max : ℕ) (known : Type 0) (p : ℕ) (before new : RowDatabase) (history longer : List Entry) (replies : List (List Reply)) (x : Statement) (at : ℕ)
    (rs : List Reply) (r : Reply) → LegalInPhase s max known p history replies → before ≡ database_after s history (length history) → IsNext s p replies x at rs
    → Settles x max known before history r new longer → LegalInPhase s max known p longer (with_reply replies at rs r)
legal_settled s has max known p before new history longer replies x at rs (Done n what) legal is next settles =
    let e : Entry = settles.entry in
    let accepted : Accepted x before what = record { command = settles.command; after = new; is = settles.is; steps = settles.steps; told = settles.detail } in
    let appended : LegalInPhase s max known p (history ++ e ∷ []) (with_reply replies at rs (Done (length history + 1) e.what))
    = legal_appended s has max known p history replies x at rs e legal next settles.names (rw (sym is, settles.told) accepted) in
    rw (settles.is_longer, settles.at_is, sym settles.told) appended
legal_settled s has max known p before new history longer replies x at rs (Rows n rows) legal is next settles =
    stays_legal s has max known p before new history longer replies x at rs (Rows n rows) legal next settles.0 refl (rw (settles.0.at_is, sym is) settles.1)
legal_settled s has max known p before new history longer replies x at rs (Refused n cause) legal is next settles =
    stays_legal s has max known p before new history longer replies x at rs (Refused n cause) legal next settles.0 refl (rw (settles.0.at_is, sym is) settles.1)
legal_settled s has max known p before new history longer replies x at rs (Failed n cause) legal is next settles =
    stays_legal s has max known p before new history longer replies x at rs (Failed n cause) legal next settles.0 refl settles.1

-- and the database behind it
pub database_settled : (s : Script) → HasSessions s → (max : ℕ) (known : Type 0) (before new : RowDatabase) (history longer : List Entry) (x : Statement) (r : Reply)
    → before ≡ database_after s history (length history) → Stands s x → Settles x max known before history r new longer → new ≡ database_after s longer (length longer)
database_settled s has max known before new history longer x (Done n what) is stands settles =
    rw settles.is_longer (database_appended s has before new history x settles.entry settles.command is stands settles.names settles.is settles.steps)
database_settled s has max known before new history longer x (Rows n rows) is stands settles = rw (settles.0.same_database, settles.0.same_history) is
database_settled s has max known before new history longer x (Refused n cause) is stands settles = rw (settles.0.same_database, settles.0.same_history) is
database_settled s has max known before new history longer x (Failed n cause) is stands settles = rw (settles.0.same_database, settles.0.same_history) is

-- a session with a statement left up to the present phase's end has a next one
pub record HasNext (s : Script) (p : ℕ) (replies : List (List Reply)) (at : ℕ) (rs : List Reply) : Type 0 where
  pub statement : Statement
  pub next : IsNext s p replies statement at rs

pub has_next : (s : Script) → HasSessions s → (p : ℕ) (replies : List (List Reply)) (at : ℕ) (name : List ℕ) (rs : List Reply) → RepliesInPhase s p replies
    → slice_get s.sessions at ≡ Some name → slice_get replies at ≡ Some rs → length rs < count_before s name (p + 1) → HasNext s p replies at rs
has_next s has p replies at name rs answers at_name is below =
    let front : List Statement = statements_before s (p + 1) in
    let found : IsPassing (λ x. same_name x.session name) front (length rs) = passing (λ x. same_name x.session name) front (length rs) below in
    let x : Statement = found.element in
    let session : x.session ≡ name = same_name-true x.session name found.passes in
    let stands : slice_get (statements s) found.place ≡ Some x = before_stands s (p + 1) found.place x found.stands in
    let within : found.place < length front = slice_get_within front found.place x found.stands in
    let own : x.number ≡ count_by (λ y. same_name y.session x.session) (take found.place (statements s)) + 1 = has.numbered found.place x stands in
    let named : x.number ≡ count_by (λ y. same_name y.session name) (take found.place (statements s)) + 1 = rw session at own in
    let same : take found.place (statements s) ≡ take found.place front = taken_front s (p + 1) found.place (le_of_lt within) in
    let counted : count_by (λ y. same_name y.session name) (take found.place (statements s)) ≡ length rs
    = ap (λ (xs : List Statement). count_by (λ y. same_name y.session name) xs) same ∙ found.counted in
    let number : x.number ≡ length rs + 1 = omega arith in
    let list : IsWithin (take (p + 1) s.phases) x = within_lists (take (p + 1) s.phases) found.place x found.stands in
    let phase : (list.list < p + 1) × (slice_get s.phases list.list ≡ Some list.elements) = slice_get-taken (p + 1) s.phases list.list list.elements list.list_is in
    let bound : list.list < p + 1 = phase.0 in
    let present : list.list ≡ p = (elim (cases_lt list.list p) [
      | inl earlier ↦ absurd (
          let place : IsInPhase s list.list (length (statements_before s list.list) + list.place) x = in_phase s list.list list.place list.elements x phase.1 list.stands in
          let on : GoesOn (statements_before s (list.list + 1)) (statements_before s p) = before_goes_on s (list.list + 1) p (omega arith) in
          let here : slice_get (statements_before s p) (length (statements_before s list.list) + list.place) ≡ Some x
          = rw on.is (slice_get-front (statements_before s (list.list + 1)) on.rest (length (statements_before s list.list) + list.place) x place.before) in
          let replied : is_some (reply_to s replies x) ≡ true = answers.replied (length (statements_before s list.list) + list.place) x here in
          let past : reply_to s replies x ≡ None = reply_to-at s has replies at x rs (rw session at_name) is ∙ slice_get_past rs (x.number - 1) (omega arith) in
          let none : is_some (reply_to s replies x) ≡ false = ap (λ (r : Option Reply). is_some r) past in
          cc)
      | inr from ↦ omega arith
    ]) in
    record {
      statement = x;
      next = record {
        phase = list.elements;
        place = list.place;
        phase_is = rw present at phase.1;
        stands = list.stands;
        session = rw session at_name;
        replies_are = is;
        number = number;
      };
    }
