-- Bags: lists up to the order of their members. This project's own.
use Rattle.std.specs.Prelude.{ℕ, ◌≡◌, Bool, true, List, ◌++◌}
use Rattle.std.specs.List.{sum_by, count_by}
use Rattle.std.specs.declared.cmp.Ordering.{Ordering}
use Rattle.std.specs.declared.cmp.Ordering.TheVariants.{Equal}

-- the same members, each as often: equal under every weight
pub record SameBag {X : Type 0} (xs ys : List X) : Type 0 where
  pub weighs : (weight : X → ℕ) → sum_by weight xs ≡ sum_by weight ys

-- a bag is a part of another, with the rest
pub record PartOf {X : Type 0} (part whole : List X) : Type 0 where
  pub rest : List X
  pub is : SameBag whole (part ++ rest)

-- a test that is true of equal values alone
pub record TellsApart {X : Type 0} (same : X → X → Bool) : Type 0 where
  pub itself : (x : X) → same x x ≡ true
  pub equal : (x y : X) → same x y ≡ true → x ≡ y

-- how often a value stands in a list
abbrev pub count : {X : Type 0} → (X → X → Bool) → X → List X → ℕ
count same x xs = count_by (same x) xs

-- an order that ties equal values alone
abbrev pub TiesEqualsAlone : {X : Type 0} → (X → X → Ordering) → Type 0
TiesEqualsAlone {X} cmp = (x y : X) → cmp x y ≡ Equal → x ≡ y
