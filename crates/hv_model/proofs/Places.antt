-- Lists by places: where one element is added at the end, one list stands behind another, a front is taken, or one element is written.
use Rattle.std.proofs.Common.{◌≡◌, ◌≢◌, ◌⊎◌, ℕ, zero, suc, ◌+◌, ◌-◌, ◌<◌, ◌≤◌, Bool, true, false, cond, List, [], ◌∷◌, ◌++◌, length, take, set, map, count_by, Some, IsSome, inl, inr, refl, ap, sym, arith, zero-add, suc-add, take-take, eq-zero-or-pos, rules}
use Rattle.std.specs.List.{slice_get, flat_map}
use Rattle.std.proofs.lemmas.Option.{slice_get_within, get_or_from_slice_get}
use Rattle.std.proofs.lemmas.List.Sums.{count_by_more_yes, sum_by-take-le, sum_by-cons}
use Rattle.std.proofs.lemmas.Bool.{cases_Bool, cond-true, cond-false}

-- an element of a list that is one longer stood there before, or is the last
pub record IsOld {X : Type 0} (xs : List X) (k : ℕ) (y : X) : Type 0 where
  pub below : k < length xs
  pub stands : slice_get xs k ≡ Some y

pub record IsLast {X : Type 0} (xs : List X) (x : X) (k : ℕ) (y : X) : Type 0 where
  pub at : k ≡ length xs
  pub same : x ≡ y

pub slice_get-more : {X : Type 0} (xs : List X) (x : X) (k : ℕ) (y : X) → slice_get (xs ++ x ∷ []) k ≡ Some y → IsOld xs k y ⊎ IsLast xs x k y
slice_get-more [] x zero y e = inr (record { at = refl; same = cc })
slice_get-more [] x (suc k) y e = absurd (cc)
slice_get-more (z ∷ xs) x zero y e = inl (record { below = omega arith; stands = e })
slice_get-more (z ∷ xs) x (suc k) y e =
    elim (slice_get-more xs x k y e) [
      | inl old ↦ inl (record { below = (let h : k < length xs = old.below in omega arith); stands = old.stands })
      | inr last ↦ inr (record { at = (let h : k ≡ length xs = last.at in omega arith); same = last.same })
    ]

-- what stood there before still stands there
pub slice_get-kept : {X : Type 0} (xs : List X) (x : X) (k : ℕ) (y : X) → slice_get xs k ≡ Some y → slice_get (xs ++ x ∷ []) k ≡ Some y
slice_get-kept [] x k y e = absurd (cc)
slice_get-kept (z ∷ xs) x zero y e = e
slice_get-kept (z ∷ xs) x (suc k) y e = slice_get-kept xs x k y e

-- the new element is the last
pub slice_get-last : {X : Type 0} (xs : List X) (x : X) → slice_get (xs ++ x ∷ []) (length xs) ≡ Some x
slice_get-last [] x = refl
slice_get-last (z ∷ xs) x = slice_get-last xs x

-- what stands in the first of two lists stands there in both
pub slice_get-front : {X : Type 0} (xs ys : List X) (k : ℕ) (y : X) → slice_get xs k ≡ Some y → slice_get (xs ++ ys) k ≡ Some y
slice_get-front [] ys k y e = absurd (cc)
slice_get-front (z ∷ xs) ys zero y e = e
slice_get-front (z ∷ xs) ys (suc k) y e = slice_get-front xs ys k y e

-- what stands in the second stands so far behind the first
pub slice_get-behind : {X : Type 0} (xs ys : List X) (k : ℕ) → slice_get (xs ++ ys) (length xs + k) ≡ slice_get ys k
slice_get-behind [] ys k = rw zero-add refl
slice_get-behind (z ∷ xs) ys k = rw suc-add (slice_get-behind xs ys k)

-- what stands in a front of a list
pub slice_get-taken : {X : Type 0} (n : ℕ) (xs : List X) (k : ℕ) (y : X) → slice_get (take n xs) k ≡ Some y → (k < n) × (slice_get xs k ≡ Some y)
slice_get-taken zero xs k y e = absurd (cc)
slice_get-taken (suc n) [] k y e = absurd (cc)
slice_get-taken (suc n) (x ∷ xs) zero y e = (omega arith, e)
slice_get-taken (suc n) (x ∷ xs) (suc k) y e =
    let rest = slice_get-taken n xs k y e in (let below : k < n = rest.0 in omega arith, rest.1)

pub slice_get-take : {X : Type 0} (n : ℕ) (xs : List X) (k : ℕ) (y : X) → k < n → slice_get xs k ≡ Some y → slice_get (take n xs) k ≡ Some y
slice_get-take zero xs k y below e = absurd (omega arith)
slice_get-take (suc n) [] k y below e = absurd (cc)
slice_get-take (suc n) (x ∷ xs) zero y below e = e
slice_get-take (suc n) (x ∷ xs) (suc k) y below e = slice_get-take n xs k y (omega arith) e

-- the element that was written, and the others
pub slice_get-set_same : {X : Type 0} (xs : List X) (i : ℕ) (y : X) → i < length xs → slice_get (set xs i y) i ≡ Some y
slice_get-set_same [] i y below = absurd (omega arith)
slice_get-set_same (x ∷ xs) zero y below = refl
slice_get-set_same (x ∷ xs) (suc i) y below = slice_get-set_same xs i y (omega arith)

pub slice_get-set_other : {X : Type 0} (xs : List X) (i j : ℕ) (y : X) → j ≢ i → slice_get (set xs i y) j ≡ slice_get xs j
slice_get-set_other [] i j y other = refl
slice_get-set_other (x ∷ xs) zero zero y other = absurd (other refl)
slice_get-set_other (x ∷ xs) zero (suc j) y other = refl
slice_get-set_other (x ∷ xs) (suc i) zero y other = refl
slice_get-set_other (x ∷ xs) (suc i) (suc j) y other = slice_get-set_other xs i j y (λ same. other (ap (λ (n : ℕ). suc n) same))

-- an element that passes a test is counted, and a longer front has no fewer
pub count_at : {X : Type 0} (p : X → Bool) (xs : List X) (k : ℕ) (x : X) → slice_get xs k ≡ Some x → p x ≡ true
    → count_by p (take (k + 1) xs) ≡ count_by p (take k xs) + 1
count_at p xs k x at passes = count_by_more_yes p xs k x (slice_get_within xs k x at) (rw (get_or_from_slice_get xs k x x at) passes)

pub count_front : {X : Type 0} (p : X → Bool) (xs : List X) (j k : ℕ) → j ≤ k → count_by p (take j xs) ≤ count_by p (take k xs)
count_front p xs j k le =
    rw (sym (take-take j k xs le)) (sum_by-take-le (λ x. cond (p x) 1 0) (take k xs) j)

-- tests that agree at each place count the same
pub count_agree : {X : Type 0} (f g : X → Bool) (xs : List X) → ((k : ℕ) (x : X) → slice_get xs k ≡ Some x → f x ≡ g x) → count_by f xs ≡ count_by g xs
count_agree f g [] agree = refl
count_agree f g (x ∷ xs) agree =
    rw (sum_by-cons (λ y. cond (f y) 1 0) x xs, sum_by-cons (λ y. cond (g y) 1 0) x xs, agree zero x refl)
    (ap (λ (n : ℕ). cond (g x) 1 0 + n) (count_agree f g xs (λ k y at. agree (suc k) y at)))

-- tests that agree at each place but one, where the second fails
pub count_agree_but : {X : Type 0} (f g : X → Bool) (xs : List X) (n : ℕ) (x : X) → slice_get xs n ≡ Some x → g x ≡ false
    → ((k : ℕ) (y : X) → k ≢ n → slice_get xs k ≡ Some y → f y ≡ g y) → count_by f xs ≡ count_by g xs + cond (f x) 1 0
count_agree_but f g [] n x at fails agree = absurd (cc)
count_agree_but f g (z ∷ xs) zero x at fails agree =
    let same : z ≡ x = cc in
    let rest : count_by f xs ≡ count_by g xs = count_agree f g xs (λ k y at_k. agree (suc k) y (λ e. omega arith) at_k) in
    rw (sum_by-cons (λ y. cond (f y) 1 0) z xs, sum_by-cons (λ y. cond (g y) 1 0) z xs, same, fails) (omega arith)
count_agree_but f g (z ∷ xs) (suc n) x at fails agree =
    let rest : count_by f xs ≡ count_by g xs + cond (f x) 1 0 = count_agree_but f g xs n x at fails (λ k y apart at_k. agree (suc k) y (λ e. apart (omega arith)) at_k) in
    rw (sum_by-cons (λ y. cond (f y) 1 0) z xs, sum_by-cons (λ y. cond (g y) 1 0) z xs, agree zero z (λ e. omega arith) refl) (omega arith)

-- where no element passes
pub count_none : {X : Type 0} (f : X → Bool) (xs : List X) → ((k : ℕ) (x : X) → slice_get xs k ≡ Some x → f x ≡ false) → count_by f xs ≡ 0
count_none f [] fails = refl
count_none f (x ∷ xs) fails =
    rw (sum_by-cons (λ y. cond (f y) 1 0) x xs, fails zero x refl)
    (let rest : count_by f xs ≡ 0 = count_none f xs (λ k y at. fails (suc k) y at) in omega arith)

-- of the elements that pass, the one behind n others
pub record IsPassing {X : Type 0} (f : X → Bool) (xs : List X) (n : ℕ) : Type 0 where
  pub place : ℕ
  pub element : X
  pub stands : slice_get xs place ≡ Some element
  pub passes : f element ≡ true
  pub counted : count_by f (take place xs) ≡ n

-- one place on, behind an element that passes or fails
behind_one : {X : Type 0} (f : X → Bool) (x : X) (xs : List X) (n m : ℕ) → cond {A = ℕ} (f x) 1 0 + n ≡ m → IsPassing f xs n → IsPassing f (x ∷ xs) m
behind_one f x xs n m one rest = record {
  place = suc rest.place;
  element = rest.element;
  stands = rest.stands;
  passes = rest.passes;
  counted = (let front : count_by f (x ∷ take rest.place xs) ≡ cond (f x) 1 0 + count_by f (take rest.place xs) = sum_by-cons (λ y. cond (f y) 1 0) x (take rest.place xs) in
      let inner : count_by f (take rest.place xs) ≡ n = rest.counted in
      omega arith);
}

pub passing : {X : Type 0} (f : X → Bool) (xs : List X) (n : ℕ) → n < count_by f xs → IsPassing f xs n
passing f [] n below = absurd (omega arith)
passing {X} f (x ∷ xs) n below =
    let whole : count_by f (x ∷ xs) ≡ cond (f x) 1 0 + count_by f xs = sum_by-cons (λ y. cond (f y) 1 0) x xs in
    elim (cases_Bool (f x)) [
      | inr fails ↦ (let zeros : cond {A = ℕ} (f x) 1 0 ≡ 0 = cond-false (f x) 1 0 fails in
          behind_one f x xs n n (omega arith) (passing f xs n (omega arith)))
      | inl passes ↦ (let one : cond {A = ℕ} (f x) 1 0 ≡ 1 = cond-true (f x) 1 0 passes in
          elim (eq-zero-or-pos n) [
            | inl first ↦ record { place = 0; element = x; stands = refl; passes = passes; counted = sym first }
            | inr later ↦ behind_one f x xs (n - 1) n (omega arith) (passing f xs (n - 1) (omega arith))
          ])
    ]

-- the elements but the last
pub slice_get-push_other : {X : Type 0} (xs : List X) (x : X) (k : ℕ) → k ≢ length xs → slice_get (xs ++ x ∷ []) k ≡ slice_get xs k
slice_get-push_other [] x zero other = absurd (other refl)
slice_get-push_other [] x (suc k) other = refl
slice_get-push_other (z ∷ xs) x zero other = refl
slice_get-push_other (z ∷ xs) x (suc k) other = slice_get-push_other xs x k (λ same. other (ap (λ (n : ℕ). suc n) same))

-- there is an element below the length
pub is_there : {X : Type 0} (xs : List X) (k : ℕ) → k < length xs → IsSome (slice_get xs k)
is_there [] k below = absurd (omega arith)
is_there (x ∷ xs) zero below = search rules
is_there (x ∷ xs) (suc k) below = is_there xs k (omega arith)

-- two lists of one length whose values agree place by place
pub map_agree : {X Y Z : Type 0} (f : X → Z) (g : Y → Z) (xs : List X) (ys : List Y) → length xs ≡ length ys
    → ((k : ℕ) (x : X) (y : Y) → slice_get xs k ≡ Some x → slice_get ys k ≡ Some y → f x ≡ g y) → map f xs ≡ map g ys
map_agree f g [] [] same agree = refl
map_agree f g [] (y ∷ ys) same agree = absurd (omega arith)
map_agree f g (x ∷ xs) [] same agree = absurd (omega arith)
map_agree f g (x ∷ xs) (y ∷ ys) same agree =
    rw (agree zero x y refl refl, map_agree f g xs ys (omega arith) (λ k z w at_z at_w. agree (suc k) z w at_z at_w)) refl

-- an element of several lists in a row stands in one of them
pub record IsWithin {X : Type 0} (xss : List (List X)) (x : X) : Type 0 where
  pub list : ℕ
  pub place : ℕ
  pub elements : List X
  pub list_is : slice_get xss list ≡ Some elements
  pub stands : slice_get elements place ≡ Some x

-- an element of two lists in a row stands in one of them
pub slice_get-append_cases : {X : Type 0} (xs ys : List X) (k : ℕ) (x : X) → slice_get (xs ++ ys) k ≡ Some x
    → (slice_get xs k ≡ Some x) ⊎ (slice_get ys (k - length xs) ≡ Some x)
slice_get-append_cases [] ys k x at = let none : k - 0 ≡ k = omega arith in inr (rw none at)
slice_get-append_cases (z ∷ xs) ys zero x at = inl at
slice_get-append_cases (z ∷ xs) ys (suc k) x at =
    let less : suc k - suc (length xs) ≡ k - length xs = omega arith in
    elim (slice_get-append_cases xs ys k x at) [
      | inl first ↦ inl first
      | inr second ↦ inr (rw less second)
    ]

pub within_lists : {X : Type 0} (xss : List (List X)) (k : ℕ) (x : X) → slice_get (flat_map (λ xs. xs) xss) k ≡ Some x → IsWithin xss x
within_lists [] k x at = absurd (cc)
within_lists (xs ∷ xss) k x at =
    elim (slice_get-append_cases xs (flat_map (λ ys. ys) xss) k x at) [
      | inl first ↦ record { list = 0; place = k; elements = xs; list_is = refl; stands = first }
      | inr second ↦ (let rest = within_lists xss (k - length xs) x second in
          record { list = suc rest.list; place = rest.place; elements = rest.elements; list_is = rest.list_is; stands = rest.stands })
    ]
