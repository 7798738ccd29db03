-- Equal bags: an equivalence, sums, what sums have in common, and what is computed of each member.
use Rattle.std.proofs.Common.{◌≡◌, ℕ, ◌+◌, Bool, cond, true, false, List, [], ◌∷◌, ◌++◌, map, length, refl, sym, ◌∙◌, arith, IsPermutation}
use Rattle.std.specs.List.{sum_by, filter, flat_map}
use Rattle.std.proofs.lemmas.List.Sums.{sum_by-append, sum_by-cons}
use Rattle.std.proofs.lemmas.List.Sorted.{sum_by-IsPermutation}
use Rattle.hv_bag.specs.Bag.{SameBag}

-- an equivalence
pub same_refl : {X : Type 0} (xs : List X) → SameBag xs xs
same_refl xs = record { weighs = λ w. refl }

pub same_sym : {X : Type 0} {xs ys : List X} → SameBag xs ys → SameBag ys xs
same_sym h = record { weighs = λ w. sym (h.weighs w) }

pub same_trans : {X : Type 0} {xs ys zs : List X} → SameBag xs ys → SameBag ys zs → SameBag xs zs
same_trans h k = record { weighs = λ w. h.weighs w ∙ k.weighs w }

-- sums of bags
pub same_append : {X : Type 0} (xs ys us vs : List X) → SameBag xs ys → SameBag us vs → SameBag (xs ++ us) (ys ++ vs)
same_append xs ys us vs h k =
    record { weighs = λ w. omega (arith, sum_by-append w xs us, sum_by-append w ys vs, h.weighs w, k.weighs w) }

pub same_swap : {X : Type 0} (xs ys : List X) → SameBag (xs ++ ys) (ys ++ xs)
same_swap xs ys = record { weighs = λ w. omega (arith, sum_by-append w xs ys, sum_by-append w ys xs) }

-- what two sums have in common is cancelled
pub same_cancel : {X : Type 0} (xs ys us vs : List X) → SameBag xs ys → SameBag (xs ++ us) (ys ++ vs) → SameBag us vs
same_cancel xs ys us vs h k =
    record { weighs = λ w. omega (arith, sum_by-append w xs us, sum_by-append w ys vs, h.weighs w, k.weighs w) }

-- the number of members
weight_one : {X : Type 0} (xs : List X) → sum_by (λ x. 1) xs ≡ length xs
weight_one [] = refl
weight_one (x ∷ xs) = omega (arith, sum_by-cons (λ x. 1) x xs, weight_one xs)

pub same_length : {X : Type 0} (xs ys : List X) → SameBag xs ys → length xs ≡ length ys
same_length xs ys h = sym (weight_one xs) ∙ h.weighs (λ x. 1) ∙ weight_one ys

-- a permutation is an equal bag
pub same_from_permutation : {X : Type 0} (xs ys : List X) → IsPermutation xs ys → SameBag xs ys
same_from_permutation xs ys h = record { weighs = λ w. sym (sum_by-IsPermutation w xs ys h) }

-- a weight of what is computed of each member is a weight of the members
pub sum_by-map : {X Y : Type 0} (w : Y → ℕ) (f : X → Y) (xs : List X) → sum_by w (map f xs) ≡ sum_by (λ x. w (f x)) xs
sum_by-map w f [] = refl
sum_by-map w f (x ∷ xs) = omega (arith, sum_by-cons w (f x) (map f xs), sum_by-cons (λ y. w (f y)) x xs, sum_by-map w f xs)

pub sum_by-flat_map : {X Y : Type 0} (w : Y → ℕ) (f : X → List Y) (xs : List X)
    → sum_by w (flat_map f xs) ≡ sum_by (λ x. sum_by w (f x)) xs
sum_by-flat_map w f [] = refl
sum_by-flat_map w f (x ∷ xs) =
    omega (arith, sum_by-append w (f x) (flat_map f xs), sum_by-cons (λ y. sum_by w (f y)) x xs, sum_by-flat_map w f xs)

one_filtered : {X : Type 0} (w : X → ℕ) (b : Bool) (x : X) (xs : List X) → sum_by w (cond b (x ∷ xs) xs) ≡ cond b (w x) 0 + sum_by w xs
one_filtered w true x xs = sum_by-cons w x xs
one_filtered w false x xs = omega arith

pub sum_by-filter : {X : Type 0} (w : X → ℕ) (p : X → Bool) (xs : List X) → sum_by w (filter p xs) ≡ sum_by (λ x. cond (p x) (w x) 0) xs
sum_by-filter w p [] = refl
sum_by-filter w p (x ∷ xs) =
    omega (arith, one_filtered w (p x) x (filter p xs), sum_by-cons (λ y. cond (p y) (w y) 0) x xs, sum_by-filter w p xs)

sum_by-alike : {X : Type 0} (f g : X → ℕ) (xs : List X) → ((x : X) → f x ≡ g x) → sum_by f xs ≡ sum_by g xs
sum_by-alike f g [] h = refl
sum_by-alike f g (x ∷ xs) h = omega (arith, sum_by-cons f x xs, sum_by-cons g x xs, h x, sum_by-alike f g xs h)

-- what is computed of each member
pub same_map : {X Y : Type 0} (f : X → Y) (xs ys : List X) → SameBag xs ys → SameBag (map f xs) (map f ys)
same_map f xs ys h = record { weighs = λ w. sum_by-map w f xs ∙ h.weighs (λ x. w (f x)) ∙ sym (sum_by-map w f ys) }

pub same_filter : {X : Type 0} (p : X → Bool) (xs ys : List X) → SameBag xs ys → SameBag (filter p xs) (filter p ys)
same_filter p xs ys h =
    record { weighs = λ w. sum_by-filter w p xs ∙ h.weighs (λ x. cond (p x) (w x) 0) ∙ sym (sum_by-filter w p ys) }

pub same_flat_map : {X Y : Type 0} (f g : X → List Y) (xs ys : List X) → ((x : X) → SameBag (f x) (g x)) → SameBag xs ys
    → SameBag (flat_map f xs) (flat_map g ys)
same_flat_map f g xs ys alike h = record {
  weighs = λ w. sum_by-flat_map w f xs ∙ h.weighs (λ x. sum_by w (f x))
      ∙ sum_by-alike (λ x. sum_by w (f x)) (λ x. sum_by w (g x)) ys (λ x. (alike x).weighs w) ∙ sym (sum_by-flat_map w g ys);
}
