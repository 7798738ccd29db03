-- The places of the sessions that can take a step, where one of them took one.
use Rattle.std.proofs.Common.{◌≡◌, ℕ, zero, suc, ◌+◌, true, false, Bool, List, [], ◌∷◌, ◌++◌, length, set, take, drop, Some, refl, sym, ap, ◌∙◌, arith}
use Rattle.std.specs.Prelude.{nat_lt, if◌then◌else◌}
use Rattle.std.specs.List.{slice_get, remove}
use Rattle.hv_model.specs.declared.script.Script.{Script}
use Rattle.hv_model.specs.declared.reply.Reply.{Reply}
use Rattle.hv_model.specs.Sessions.{count_before}
use Rattle.hv_world.specs.World.{ready_from}

-- a session that can take a step, among those numbered on from i
pub record IsReadyAt (s : Script) (p i : ℕ) (names : List (List ℕ)) (replies : List (List Reply)) (at : ℕ) : Type 0 where
  pub place : ℕ
  pub at_is : at ≡ i + place
  pub name : List ℕ
  pub of_session : List Reply
  pub at_name : slice_get names place ≡ Some name
  pub is : slice_get replies place ≡ Some of_session
  pub below : nat_lt (length of_session) (count_before s name (p + 1)) ≡ true

deeper : (s : Script) (p i : ℕ) (name : List ℕ) (names : List (List ℕ)) (rs : List Reply) (replies : List (List Reply)) (at : ℕ) → IsReadyAt s p (i + 1) names replies at
    → IsReadyAt s p i (name ∷ names) (rs ∷ replies) at
deeper s p i name names rs replies at there = record {
  place = suc there.place;
  at_is = (let is : at ≡ i + 1 + there.place = there.at_is in omega arith);
  name = there.name;
  of_session = there.of_session;
  at_name = there.at_name;
  is = there.is;
  below = there.below;
}

pub ready_place : (s : Script) (p i : ℕ) (names : List (List ℕ)) (replies : List (List Reply)) (k at : ℕ) → slice_get (ready_from s p i names replies) k ≡ Some at
    → IsReadyAt s p i names replies at
ready_place s p i [] replies k at is = absurd cc
ready_place s p i (n ∷ names) [] k at is = absurd cc
ready_place s p i (n ∷ names) (r ∷ replies) zero at is =
    elim (nat_lt (length r) (count_before s n (p + 1))) as (λ b. nat_lt (length r) (count_before s n (p + 1)) ≡ b
    → slice_get (if b then i ∷ ready_from s p (i + 1) names replies else ready_from s p (i + 1) names replies) zero ≡ Some at → IsReadyAt s p i (n ∷ names) (r ∷ replies) at) [
      | true ↦ (λ e got. record { place = 0; at_is = (let same : i ≡ at = cc in omega arith); name = n; of_session = r; at_name = refl; is = refl; below = e })
      | false ↦ (λ e got. deeper s p i n names r replies at (ready_place s p (i + 1) names replies zero at got))
    ] refl is
ready_place s p i (n ∷ names) (r ∷ replies) (suc k) at is =
    elim (nat_lt (length r) (count_before s n (p + 1))) as (λ b.
    slice_get (if b then i ∷ ready_from s p (i + 1) names replies else ready_from s p (i + 1) names replies) (suc k) ≡ Some at → IsReadyAt s p i (n ∷ names) (r ∷ replies) at) [
      | true ↦ (λ got. deeper s p i n names r replies at (ready_place s p (i + 1) names replies k at got))
      | false ↦ (λ got. deeper s p i n names r replies at (ready_place s p (i + 1) names replies (suc k) at got))
    ] is

-- a list but for the element at a place
abbrev pub without : List ℕ → ℕ → List ℕ
without [] k = []
without (x ∷ xs) zero = xs
without (x ∷ xs) (suc k) = x ∷ without xs k

without_is : (xs : List ℕ) (k : ℕ) → take k xs ++ drop (suc k) xs ≡ without xs k
without_is [] zero = refl
without_is [] (suc k) = refl
without_is (x ∷ xs) zero = refl
without_is (x ∷ xs) (suc k) = ap (λ (l : List ℕ). x ∷ l) (without_is xs k)

pub remove_is : (xs : List ℕ) (k : ℕ) → remove xs k ≡ without xs k
remove_is xs k = without_is xs k

-- none stands before the first
none_sooner : (s : Script) (p i : ℕ) (names : List (List ℕ)) (replies : List (List Reply)) (k at : ℕ) → slice_get (ready_from s p (i + 1) names replies) k ≡ Some at → at ≡ i → ⊥
none_sooner s p i names replies k at is same =
    let there : IsReadyAt s p (i + 1) names replies at = ready_place s p (i + 1) names replies k at is in
    let place : at ≡ i + 1 + there.place = there.at_is in
    omega arith

-- behind the first
behind_first : (i : ℕ) (now was : List ℕ) (k : ℕ) (b : Bool) → now ≡ (if b then was else without was k) → i ∷ now ≡ (if b then i ∷ was else without (i ∷ was) (suc k))
behind_first i now was k true is = ap (λ (l : List ℕ). i ∷ l) is
behind_first i now was k false is = ap (λ (l : List ℕ). i ∷ l) is

-- with other replies of one of them, it stays where it has statements left, and else goes out
ready_without : (s : Script) (p i : ℕ) (names : List (List ℕ)) (replies : List (List Reply)) (k j at : ℕ) (name : List ℕ) (new : List Reply) (b : Bool)
    → slice_get (ready_from s p i names replies) k ≡ Some at → at ≡ i + j → slice_get names j ≡ Some name → nat_lt (length new) (count_before s name (p + 1)) ≡ b
    → ready_from s p i names (set replies j new) ≡ (if b then ready_from s p i names replies else without (ready_from s p i names replies) k)
ready_without s p i [] replies k j at name new b is place at_name due = absurd cc
ready_without s p i (n ∷ names) [] k j at name new b is place at_name due = absurd cc
ready_without s p i (n ∷ names) (r ∷ replies) zero zero at name new b is place at_name due =
    let same : n ≡ name = cc in
    let due_here : nat_lt (length new) (count_before s n (p + 1)) ≡ b = rw same due in
    rw due_here
    (elim (nat_lt (length r) (count_before s n (p + 1))) as (λ c.
    slice_get (if c then i ∷ ready_from s p (i + 1) names replies else ready_from s p (i + 1) names replies) zero ≡ Some at
    → (if b then i ∷ ready_from s p (i + 1) names replies else ready_from s p (i + 1) names replies)
    ≡ (if b then (if c then i ∷ ready_from s p (i + 1) names replies else ready_from s p (i + 1) names replies) else without (if c then i ∷ ready_from s p (i + 1) names replies else ready_from s p (i + 1) names replies) zero)) [
      | true ↦ (λ got. refl)
      | false ↦ (λ got. absurd (none_sooner s p i names replies zero at got (omega arith)))
    ] is)
ready_without s p i (n ∷ names) (r ∷ replies) (suc k) zero at name new b is place at_name due =
    absurd (elim (nat_lt (length r) (count_before s n (p + 1))) as (λ c.
    slice_get (if c then i ∷ ready_from s p (i + 1) names replies else ready_from s p (i + 1) names replies) (suc k) ≡ Some at → ⊥) [
      | true ↦ (λ got. none_sooner s p i names replies k at got (omega arith))
      | false ↦ (λ got. none_sooner s p i names replies (suc k) at got (omega arith))
    ] is)
ready_without s p i (n ∷ names) (r ∷ replies) zero (suc j) at name new b is place at_name due =
    elim (nat_lt (length r) (count_before s n (p + 1))) as (λ c.
    slice_get (if c then i ∷ ready_from s p (i + 1) names replies else ready_from s p (i + 1) names replies) zero ≡ Some at
    → (if c then i ∷ ready_from s p (i + 1) names (set replies j new) else ready_from s p (i + 1) names (set replies j new))
    ≡ (if b then (if c then i ∷ ready_from s p (i + 1) names replies else ready_from s p (i + 1) names replies) else without (if c then i ∷ ready_from s p (i + 1) names replies else ready_from s p (i + 1) names replies) zero)) [
      | true ↦ (λ got. absurd (let same : i ≡ at = cc in omega arith))
      | false ↦ (λ got. ready_without s p (i + 1) names replies zero j at name new b got (omega arith) at_name due)
    ] is
ready_without s p i (n ∷ names) (r ∷ replies) (suc k) (suc j) at name new b is place at_name due =
    elim (nat_lt (length r) (count_before s n (p + 1))) as (λ c.
    slice_get (if c then i ∷ ready_from s p (i + 1) names replies else ready_from s p (i + 1) names replies) (suc k) ≡ Some at
    → (if c then i ∷ ready_from s p (i + 1) names (set replies j new) else ready_from s p (i + 1) names (set replies j new))
    ≡ (if b then (if c then i ∷ ready_from s p (i + 1) names replies else ready_from s p (i + 1) names replies) else without (if c then i ∷ ready_from s p (i + 1) names replies else ready_from s p (i + 1) names replies) (suc k))) [
      | true ↦ (λ got. behind_first i (ready_from s p (i + 1) names (set replies j new)) (ready_from s p (i + 1) names replies) k b (ready_without s p (i + 1) names replies k j at name new b got (omega arith) at_name due))
      | false ↦ (λ got. ready_without s p (i + 1) names replies (suc k) j at name new b got (omega arith) at_name due)
    ] is

-- the same by what a vector has removed
pub ready_stays : (s : Script) (p : ℕ) (names : List (List ℕ)) (replies : List (List Reply)) (k at : ℕ) (name : List ℕ) (new : List Reply)
    → slice_get (ready_from s p 0 names replies) k ≡ Some at → slice_get names at ≡ Some name → nat_lt (length new) (count_before s name (p + 1)) ≡ true
    → ready_from s p 0 names (set replies at new) ≡ ready_from s p 0 names replies
ready_stays s p names replies k at name new is at_name due = ready_without s p 0 names replies k at at name new true is (omega arith) at_name due

pub ready_goes : (s : Script) (p : ℕ) (names : List (List ℕ)) (replies : List (List Reply)) (k at : ℕ) (name : List ℕ) (new : List Reply)
    → slice_get (ready_from s p 0 names replies) k ≡ Some at → slice_get names at ≡ Some name → nat_lt (length new) (count_before s name (p + 1)) ≡ false
    → ready_from s p 0 names (set replies at new) ≡ remove (ready_from s p 0 names replies) k
ready_goes s p names replies k at name new is at_name due =
    ready_without s p 0 names replies k at at name new false is (omega arith) at_name due ∙ sym (remove_is (ready_from s p 0 names replies) k)
