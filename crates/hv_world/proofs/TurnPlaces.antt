-- The places of a session's statements: one statement after another, which of them stand in the first phases, and phases that are passed over.
use Rattle.std.proofs.Common.{◌≡◌, ℕ, zero, suc, ◌+◌, ◌<◌, ◌≤◌, true, false, List, [], ◌∷◌, ◌++◌, length, take, count_by, Some, inl, inr, refl, sym, ap, subst, ◌∙◌, arith, take_all, le_refl, get_or}
use Rattle.std.specs.Prelude.{nat_lt, nat_le}
use Rattle.std.specs.List.{slice_get}
use Rattle.std.proofs.lemmas.Bool.{cases_lt, lt-ltb, le-ltb, ltb-false, le-leb, lt-leb}
use Rattle.std.proofs.lemmas.Option.{slice_get_within, slice_get-get_or, get_or_from_slice_get}
use Rattle.std.proofs.lemmas.List.{length_push}
use Rattle.std.proofs.lemmas.List.Sums.{count_by_more_no}
use Rattle.hv_row.specs.Schema.{same_name}
use Rattle.hv_model.specs.declared.script.Script.{Script}
use Rattle.hv_model.specs.declared.script.Statement.{Statement}
use Rattle.hv_model.specs.declared.catalogue.Entry.{Entry}
use Rattle.hv_model.specs.declared.reply.Reply.{Reply}
use Rattle.hv_model.specs.Legal.{count_of_session}
use Rattle.hv_model.specs.Sessions.{HasSessions, statements_before, count_before, AllReplied, LegalInPhase}
use Rattle.hv_model.proofs.Places.{slice_get-more, slice_get-front, count_at, count_front}
use Rattle.hv_model.proofs.Histories.{same_name-refl}
use Rattle.hv_model.proofs.SessionScripts.{same_name-true, before_goes_on}
use Rattle.hv_model.proofs.SessionReplies.{count_before_le, count_before_more, count_before_all}
use Rattle.hv_model.proofs.SessionPhases.{legal_next_phase}
use Rattle.hv_world.specs.declared.turns.Turn.{Turn}
use Rattle.hv_world.specs.Turns.{IsTurn, AreTurnsTo, AreTurns}

-- before the first statement
pub turns_start : (s : Script) (name : List ℕ) → AreTurnsTo s name (count_before s name 0) []
turns_start s name = record { count = refl; each = (λ k turn at. absurd cc) }

-- one more statement of the session
pub turns_more : (s : Script) (name : List ℕ) (p j : ℕ) (phase : List Statement) (turns : List Turn) (x : Statement) → slice_get s.phases p ≡ Some phase → slice_get phase j ≡ Some x
    → same_name x.session name ≡ true → AreTurnsTo s name (count_before s name p + count_by (λ y. same_name y.session name) (take j phase)) turns
    → AreTurnsTo s name (count_before s name p + count_by (λ y. same_name y.session name) (take (j + 1) phase)) (turns ++ (record { phase = p; place = j }) ∷ [])
turns_more s name p j phase turns x at_p at_j mine so_far =
    let t : Turn = record { phase = p; place = j } in
    let one : count_by (λ y. same_name y.session name) (take (j + 1) phase) ≡ count_by (λ y. same_name y.session name) (take j phase) + 1 = count_at (λ y. same_name y.session name) phase j x at_j mine in
    let had : length turns ≡ count_before s name p + count_by (λ y. same_name y.session name) (take j phase) = so_far.count in
    record {
      count = (let pushed : length (turns ++ t ∷ []) ≡ length turns + 1 = length_push turns t in omega arith);
      each = (λ k turn at. elim (slice_get-more turns t k turn at) [
        | inl old ↦ so_far.each k turn old.stands
        | inr last ↦ subst (λ (u : Turn). IsTurn s name k u) last.same
            (record { phase = phase; statement = x; phase_is = at_p; stands = at_j; session = same_name-true x.session name mine; counted = last.at ∙ had })
      ]);
    }

-- one more of another
pub turns_other : (s : Script) (name : List ℕ) (p j : ℕ) (phase : List Statement) (turns : List Turn) (x : Statement) → slice_get phase j ≡ Some x
    → same_name x.session name ≡ false → AreTurnsTo s name (count_before s name p + count_by (λ y. same_name y.session name) (take j phase)) turns
    → AreTurnsTo s name (count_before s name p + count_by (λ y. same_name y.session name) (take (j + 1) phase)) turns
turns_other s name p j phase turns x at_j other so_far =
    let none : count_by (λ y. same_name y.session name) (take (j + 1) phase) ≡ count_by (λ y. same_name y.session name) (take j phase) =
    count_by_more_no (λ y. same_name y.session name) phase j x (slice_get_within phase j x at_j) (rw (get_or_from_slice_get phase j x x at_j) other) in
    rw none so_far

-- behind a whole phase
pub turns_phase : (s : Script) (name : List ℕ) (p j : ℕ) (phase : List Statement) (turns : List Turn) → slice_get s.phases p ≡ Some phase → length phase ≤ j
    → AreTurnsTo s name (count_before s name p + count_by (λ y. same_name y.session name) (take j phase)) turns → AreTurnsTo s name (count_before s name (p + 1)) turns
turns_phase s name p j phase turns at_p whole so_far = rw (count_before_more s name p phase at_p, sym (take_all j phase whole)) so_far

-- behind the last phase
pub turns_all : (s : Script) (name : List ℕ) (p : ℕ) (turns : List Turn) → length s.phases ≤ p → AreTurnsTo s name (count_before s name p) turns → AreTurns s name turns
turns_all s name p turns last so_far =
    let all : count_before s name p ≡ count_of_session s name = rw (take_all p s.phases last) refl in
    rw (sym all) so_far

-- a statement is among its session's of the first phases where its phase is among them
pub turn_early : (s : Script) (name : List ℕ) (turns : List Turn) (k : ℕ) (turn : Turn) (p : ℕ) → AreTurns s name turns → slice_get turns k ≡ Some turn
    → nat_lt k (count_before s name (p + 1)) ≡ nat_le turn.phase p
turn_early s name turns k turn p are at =
    let its : IsTurn s name k turn = are.each k turn at in
    let place : k ≡ count_before s name turn.phase + count_by (λ y. same_name y.session name) (take turn.place its.phase) = its.counted in
    let session : same_name its.statement.session name ≡ true = rw its.session (same_name-refl name) in
    let one : count_by (λ y. same_name y.session name) (take (turn.place + 1) its.phase) ≡ count_by (λ y. same_name y.session name) (take turn.place its.phase) + 1 =
    count_at (λ y. same_name y.session name) its.phase turn.place its.statement its.stands session in
    let within : turn.place < length its.phase = slice_get_within its.phase turn.place its.statement its.stands in
    let most : count_by (λ y. same_name y.session name) (take (turn.place + 1) its.phase) ≤ count_by (λ y. same_name y.session name) (take (length its.phase) its.phase) =
    count_front (λ y. same_name y.session name) its.phase (turn.place + 1) (length its.phase) (omega arith) in
    let whole : count_by (λ y. same_name y.session name) (take (length its.phase) its.phase) ≡ count_by (λ y. same_name y.session name) its.phase =
    ap (λ (xs : List Statement). count_by (λ y. same_name y.session name) xs) (take_all (length its.phase) its.phase (le_refl (length its.phase))) in
    let behind : count_before s name (turn.phase + 1) ≡ count_before s name turn.phase + count_by (λ y. same_name y.session name) its.phase = count_before_more s name turn.phase its.phase its.phase_is in
    elim (cases_lt p turn.phase) [
      | inl later ↦ (let le : count_before s name (p + 1) ≤ count_before s name turn.phase = count_before_le s name (p + 1) turn.phase (omega arith) in
          le-ltb k (count_before s name (p + 1)) (omega arith) ∙ sym (lt-leb turn.phase p later))
      | inr early ↦ (let le : count_before s name (turn.phase + 1) ≤ count_before s name (p + 1) = count_before_le s name (turn.phase + 1) (p + 1) (omega arith) in
          lt-ltb k (count_before s name (p + 1)) (omega arith) ∙ sym (le-leb turn.phase p early))
    ]

-- behind all of them is none
pub turn_past : (s : Script) (name : List ℕ) (turns : List Turn) (k : ℕ) (p : ℕ) → AreTurns s name turns → length turns ≤ k → nat_lt k (count_before s name p) ≡ false
turn_past s name turns k p are past =
    let all : length turns ≡ count_of_session s name = are.count in
    let le : count_before s name p ≤ count_of_session s name = count_before_all s name p in
    le-ltb k (count_before s name p) (omega arith)

-- as many as stand in the first phases, where the next one stands in none of these
pub turns_enough : (s : Script) (name : List ℕ) (turns : List Turn) (k : ℕ) (p : ℕ) → AreTurns s name turns → ((turn : Turn) → slice_get turns k ≡ Some turn → p ≤ turn.phase)
    → count_before s name p ≤ k
turns_enough s name turns k zero are from = omega arith
turns_enough s name turns k (suc p) are from =
    elim (cases_lt k (length turns)) [
      | inl below ↦ (let turn : Turn = get_or turns k (record { phase = 0; place = 0 }) in
          let at : slice_get turns k ≡ Some turn = slice_get-get_or turns k (record { phase = 0; place = 0 }) below in
          let late : suc p ≤ turn.phase = from turn at in
          let tells : nat_lt k (count_before s name (p + 1)) ≡ false = turn_early s name turns k turn p are at ∙ lt-leb turn.phase p (omega arith) in
          let up : suc p ≡ p + 1 = omega arith in
          rw up (ltb-false k (count_before s name (p + 1)) tells))
      | inr past ↦ (let all : length turns ≡ count_of_session s name = are.count in
          let le : count_before s name (suc p) ≤ count_of_session s name = count_before_all s name (suc p) in
          omega arith)
    ]

-- what is answered in more phases is in fewer
pub replied_fewer : (s : Script) (replies : List (List Reply)) (p q : ℕ) → p ≤ q → AllReplied s replies q → AllReplied s replies p
replied_fewer s replies p q le all k x at =
    let on = before_goes_on s p q le in
    all k x (rw on.is (slice_get-front (statements_before s p) on.rest k x at))

-- phases whose statements have their replies are passed over
pub phases_passed : (s : Script) → HasSessions s → (max : ℕ) (known : Type 0) (p d : ℕ) (history : List Entry) (replies : List (List Reply))
    → LegalInPhase s max known p history replies → AllReplied s replies (p + d) → LegalInPhase s max known (p + d) history replies
phases_passed s has max known p zero history replies legal all = let none : p + 0 ≡ p = omega arith in rw none legal
phases_passed s has max known p (suc d) history replies legal all =
    let up : p + suc d ≡ p + d + 1 = omega arith in
    let front : AllReplied s replies (p + d) = replied_fewer s replies (p + d) (p + suc d) (omega arith) all in
    rw up (legal_next_phase s has max known (p + d) history replies (phases_passed s has max known p d history replies legal front) (rw up at all))
