-- Which sessions can take a step, and the first phase in which one can.
use Rattle.std.proofs.Common.{◌≡◌, ℕ, zero, suc, ◌+◌, ◌<◌, ◌≤◌, min, true, false, Bool, List, [], ◌∷◌, ◌++◌, length, drop, Option, Some, None, inl, inr, refl, sym, ap, subst, ◌∙◌, arith, le_refl, get_or}
use Rattle.std.specs.Prelude.{nat_lt, if◌then◌else◌}
use Rattle.std.specs.List.{slice_get}
use Rattle.std.proofs.Math.Seq.{drop-cons}
use Rattle.std.proofs.lemmas.Bool.{cases_lt}
use Rattle.std.proofs.lemmas.Option.{slice_get_within, slice_get_past, slice_get-get_or, get_or_from_slice_get}
use Rattle.hv_model.specs.declared.script.Script.{Script}
use Rattle.hv_model.specs.declared.reply.Reply.{Reply}
use Rattle.hv_model.specs.Sessions.{count_before}
use Rattle.hv_model.proofs.Places.{slice_get-more, slice_get-kept, slice_get-last}
use Rattle.hv_world.specs.declared.session.Session.{Session}
use Rattle.hv_world.specs.declared.turns.Turn.{Turn}
use Rattle.hv_world.specs.World.{ready_from}
use Rattle.hv_world.specs.Turns.{AreTurns, HaveTurns, IsNextPhase, earlier, is_due, next_turn, replies_of}
use Rattle.hv_world.proofs.TurnPlaces.{turn_early, turn_past}

-- a session has statements left in the phases up to one where its next stands in them
pub due_is : {P File : Type 0} (s : Script) (name : List ℕ) (p : ℕ) (q : Session P File) → AreTurns s name q.turns.items
    → nat_lt (length q.replies.items) (count_before s name (p + 1)) ≡ is_due (next_turn q) p
due_is s name p q are =
    elim (cases_lt (length q.replies.items) (length q.turns.items)) [
      | inl below ↦ (let turn : Turn = get_or q.turns.items (length q.replies.items) (record { phase = 0; place = 0 }) in
          let at : slice_get q.turns.items (length q.replies.items) ≡ Some turn = slice_get-get_or q.turns.items (length q.replies.items) (record { phase = 0; place = 0 }) below in
          rw at (turn_early s name q.turns.items (length q.replies.items) turn p are at))
      | inr past ↦ rw (slice_get_past q.turns.items (length q.replies.items) past) (turn_past s name q.turns.items (length q.replies.items) (p + 1) are past)
    ]

-- the places of those that can take a step, from one place on
pub ready_at : {P File : Type 0} (s : Script) (p at : ℕ) (sessions : List (Session P File)) (q : Session P File) (b : Bool) → HaveTurns s s.sessions sessions → slice_get sessions at ≡ Some q
    → is_due (next_turn q) p ≡ b → ready_from s p at (drop at s.sessions) (replies_of (drop at sessions))
    ≡ (if b then at ∷ ready_from s p (at + 1) (drop (at + 1) s.sessions) (replies_of (drop (at + 1) sessions)) else ready_from s p (at + 1) (drop (at + 1) s.sessions) (replies_of (drop (at + 1) sessions)))
ready_at {P} {File} s p at sessions q b have is due =
    let below : at < length sessions = slice_get_within sessions at q is in
    let paired : length sessions ≡ length s.sessions = have.paired in
    let name : List ℕ = get_or s.sessions at [] in
    let at_name : slice_get s.sessions at ≡ Some name = slice_get-get_or s.sessions at [] (omega arith) in
    let up : suc at ≡ at + 1 = omega arith in
    let names_are : drop at s.sessions ≡ name ∷ drop (at + 1) s.sessions = rw (sym up) (drop-cons s.sessions at [] (omega arith)) in
    let sessions_are : drop at sessions ≡ q ∷ drop (at + 1) sessions =
    rw (sym up) (drop-cons sessions at q below ∙ ap (λ (r : Session P File). r ∷ drop (suc at) sessions) (get_or_from_slice_get sessions at q q is)) in
    let tells : nat_lt (length q.replies.items) (count_before s name (p + 1)) ≡ b = due_is s name p q (have.each at name q at_name is) ∙ due in
    rw (names_are, sessions_are) (rw tells refl)

-- no more can than there are
pub ready_few : (s : Script) (p i : ℕ) (names : List (List ℕ)) (replies : List (List Reply)) → length (ready_from s p i names replies) ≤ length names
ready_few s p i [] replies = omega arith
ready_few s p i (n ∷ names) [] = omega arith
ready_few s p i (n ∷ names) (r ∷ replies) =
    let rest : length (ready_from s p (i + 1) names replies) ≤ length names = ready_few s p (i + 1) names replies in
    elim (nat_lt (length r) (count_before s n (p + 1)))
    as (λ b. length (if b then i ∷ ready_from s p (i + 1) names replies else ready_from s p (i + 1) names replies) ≤ length (n ∷ names)) [
      | true ↦ omega (arith, rest)
      | false ↦ omega (arith, rest)
    ]

-- where none can, each has its replies up to the phase
pub none_ready : (s : Script) (p i : ℕ) (names : List (List ℕ)) (replies : List (List Reply)) (k : ℕ) (name : List ℕ) (rs : List Reply) → ready_from s p i names replies ≡ []
    → slice_get names k ≡ Some name → slice_get replies k ≡ Some rs → nat_lt (length rs) (count_before s name (p + 1)) ≡ false
none_ready s p i [] replies k name rs none at_name at_rs = absurd cc
none_ready s p i (n ∷ names) [] k name rs none at_name at_rs = absurd cc
none_ready s p i (n ∷ names) (r ∷ replies) zero name rs none at_name at_rs =
    let same_name : n ≡ name = cc in
    let same_rs : r ≡ rs = cc in
    rw (sym same_name, sym same_rs)
    (elim (nat_lt (length r) (count_before s n (p + 1))) as (λ b. (if b then i ∷ ready_from s p (i + 1) names replies else ready_from s p (i + 1) names replies) ≡ [] → b ≡ false) [
      | true ↦ (λ nothing. absurd cc)
      | false ↦ (λ nothing. refl)
    ] none)
none_ready s p i (n ∷ names) (r ∷ replies) (suc k) name rs none at_name at_rs =
    none_ready s p (i + 1) names replies k name rs
    (elim (nat_lt (length r) (count_before s n (p + 1))) as (λ b. (if b then i ∷ ready_from s p (i + 1) names replies else ready_from s p (i + 1) names replies) ≡ [] → ready_from s p (i + 1) names replies ≡ []) [
      | true ↦ (λ nothing. absurd cc)
      | false ↦ (λ nothing. nothing)
    ] none) at_name at_rs

-- a session that can take a step
pub record IsOneReady (s : Script) (p : ℕ) (names : List (List ℕ)) (replies : List (List Reply)) : Type 0 where
  pub at : ℕ
  pub name : List ℕ
  pub of_session : List Reply
  pub at_name : slice_get names at ≡ Some name
  pub is : slice_get replies at ≡ Some of_session
  pub below : nat_lt (length of_session) (count_before s name (p + 1)) ≡ true

pub one_ready : (s : Script) (p i : ℕ) (names : List (List ℕ)) (replies : List (List Reply)) → 0 < length (ready_from s p i names replies) → IsOneReady s p names replies
one_ready s p i [] replies some = absurd (omega arith)
one_ready s p i (n ∷ names) [] some = absurd (omega arith)
one_ready s p i (n ∷ names) (r ∷ replies) some =
    elim (nat_lt (length r) (count_before s n (p + 1))) as (λ b. nat_lt (length r) (count_before s n (p + 1)) ≡ b
    → 0 < length (if b then i ∷ ready_from s p (i + 1) names replies else ready_from s p (i + 1) names replies) → IsOneReady s p (n ∷ names) (r ∷ replies)) [
      | true ↦ (λ e more. record { at = 0; name = n; of_session = r; at_name = refl; is = refl; below = e })
      | false ↦ (λ e more. let rest = one_ready s p (i + 1) names replies more in
          record { at = suc rest.at; name = rest.name; of_session = rest.of_session; at_name = rest.at_name; is = rest.is; below = rest.below })
    ] refl some

-- ---- the first phase in which a session has a statement left

phase_more : {P File : Type 0} (xs : List (Session P File)) (o : Option ℕ) (q : Session P File) (n : Option Turn) → next_turn q ≡ n → IsNextPhase xs o → IsNextPhase (xs ++ q ∷ []) (earlier o n)
phase_more {P} {File} xs None q None its none = λ i r at.
    elim (slice_get-more xs q i r at) [
      | inl old ↦ none i r old.stands
      | inr last ↦ subst (λ (t : Session P File). next_turn t ≡ None) last.same its
    ]
phase_more {P} {File} xs None q (Some turn) its none = record {
  least = (λ i r t at next. elim (slice_get-more xs q i r at) [
    | inl old ↦ absurd (let nothing : next_turn r ≡ None = none i r old.stands in cc)
    | inr last ↦ (let same : next_turn q ≡ Some t = subst (λ (u : Session P File). next_turn u ≡ Some t) (sym last.same) next in
        let equal : turn ≡ t = cc in
        rw equal (le_refl t.phase))
  ]);
  at = length xs;
  session = q;
  stands = slice_get-last xs q;
  turn = turn;
  next = its;
  phase = refl;
}
phase_more {P} {File} xs (Some p) q None its first = record {
  least = (λ i r t at next. elim (slice_get-more xs q i r at) [
    | inl old ↦ first.least i r t old.stands next
    | inr last ↦ absurd (let same : next_turn q ≡ Some t = subst (λ (u : Session P File). next_turn u ≡ Some t) (sym last.same) next in cc)
  ]);
  at = first.at;
  session = first.session;
  stands = slice_get-kept xs q first.at first.session first.stands;
  turn = first.turn;
  next = first.next;
  phase = first.phase;
}
phase_more {P} {File} xs (Some p) q (Some turn) its first =
    let least : (i : ℕ) (r : Session P File) (t : Turn) → slice_get (xs ++ q ∷ []) i ≡ Some r → next_turn r ≡ Some t → min p turn.phase ≤ t.phase = (λ i r t at next. elim (slice_get-more xs q i r at) [
      | inl old ↦ (let le : p ≤ t.phase = first.least i r t old.stands next in omega arith)
      | inr last ↦ (let same : next_turn q ≡ Some t = subst (λ (u : Session P File). next_turn u ≡ Some t) (sym last.same) next in
          let equal : turn ≡ t = cc in
          let phases : turn.phase ≡ t.phase = ap (λ (u : Turn). u.phase) equal in
          omega arith)
    ]) in
    elim (cases_lt turn.phase p) [
      | inl sooner ↦ record { least = least; at = length xs; session = q; stands = slice_get-last xs q; turn = turn; next = its; phase = omega arith }
      | inr later ↦ record {
        least = least;
        at = first.at;
        session = first.session;
        stands = slice_get-kept xs q first.at first.session first.stands;
        turn = first.turn;
        next = first.next;
        phase = (let its_phase : first.turn.phase ≡ p = first.phase in omega arith);
      }
    ]

-- of no session, and of one more
pub no_phase : {P File : Type 0} → IsNextPhase {P = P} {File = File} [] None
no_phase i q at = absurd cc

pub next_phase_more : {P File : Type 0} (xs : List (Session P File)) (o : Option ℕ) (q : Session P File) → IsNextPhase xs o → IsNextPhase (xs ++ q ∷ []) (earlier o (next_turn q))
next_phase_more xs o q so_far = phase_more xs o q (next_turn q) refl so_far
