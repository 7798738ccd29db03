-- Points that stand and fail, and elements that pass none.
use Rattle.std.proofs.Common.{◌≡◌, ℕ, suc, ◌+◌, ◌≤◌, Bool, true, false, not, cond, ◌||◌, List, [], ◌∷◌, length, Option, Some, None, is_some, refl, sym, ap, ◌∙◌, arith, ltb-false}
use Rattle.std.specs.Prelude.{nat_lt, position}
use Rattle.std.specs.Bool.{then_some}
use Rattle.std.specs.List.{prefix_len, list_any, count_by, AllByRecursion}
use Rattle.std.proofs.lemmas.List.Sums.{sum_by-cons}
use Rattle.hv_model.specs.Causes.{first_of}

-- no cause is the first where none stands
pub first_none : {A : Type 0} (point : Option A) (points : List (Option A)) → first_of (point ∷ points) ≡ None → (point ≡ None) × (first_of points ≡ None)
first_none None points none = (refl, none)
first_none (Some cause) points none = absurd cc

pub fails : {A : Type 0} (test : Bool) (cause : A) → then_some test cause ≡ None → test ≡ false
fails true cause none = absurd cc
fails false cause none = refl

pub absent : {A : Type 0} (o : Option A) → is_some o ≡ false → o ≡ None
absent None none = refl
absent (Some x) none = absurd cc

-- the first of more fails
first_fails : (test : Bool) (n count : ℕ) → suc count ≤ cond (not test) (1 + n) 0 → (test ≡ false) × (count ≤ n)
first_fails true n count long = absurd (omega arith)
first_fails false n count long = (refl, omega arith)

fail_through : {X : Type 0} (test : X → Bool) (xs : List X) → length xs ≤ prefix_len (λ x. not (test x)) xs → AllByRecursion (λ x. test x ≡ false) xs
fail_through test [] long = tt
fail_through test (x ∷ xs) long = let first = first_fails (test x) (prefix_len (λ y. not (test y)) xs) (length xs) long in (first.0, fail_through test xs first.1)

no_number : (test : Bool) (n : ℕ) → cond test (Some n) None ≡ None → test ≡ false
no_number true n none = absurd cc
no_number false n none = refl

-- where none is the first to pass, each fails
pub all_fail : {X : Type 0} (test : X → Bool) (xs : List X) → position test xs ≡ None → AllByRecursion (λ x. test x ≡ false) xs
all_fail test xs none =
    let n = prefix_len (λ x. not (test x)) xs in
    fail_through test xs (ltb-false n (length xs) (no_number (nat_lt n (length xs)) n none))

-- then none is counted
pub count_none : {X : Type 0} (test : X → Bool) (xs : List X) → AllByRecursion (λ x. test x ≡ false) xs → count_by test xs ≡ 0
count_none test [] all = refl
count_none test (x ∷ xs) all =
    let first : cond (test x) 1 0 ≡ 0 = ap {B = ℕ} (λ (b : Bool). cond b 1 0) all.0 in
    omega (arith, sum_by-cons (λ y. cond (test y) 1 0) x xs, first, count_none test xs all.1)

zero_parts : (test : Bool) (n : ℕ) → cond test 1 0 + n ≡ 0 → (test ≡ false) × (n ≡ 0)
zero_parts true n none = absurd (omega arith)
zero_parts false n none = (refl, omega arith)

-- and where none is counted, none passes
pub any_none : {X : Type 0} (test : X → Bool) (xs : List X) → count_by test xs ≡ 0 → list_any test xs ≡ false
any_none test [] none = refl
any_none test (x ∷ xs) none =
    let parts = zero_parts (test x) (count_by test xs) (sym (sum_by-cons (λ y. cond (test y) 1 0) x xs) ∙ none) in
    ap (λ (b : Bool). b || list_any test xs) parts.0 ∙ any_none test xs parts.1
