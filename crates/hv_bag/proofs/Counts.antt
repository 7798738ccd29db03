-- Counts: equal bags are permutations of each other, and a fold whose steps may be exchanged sees no order.
use Rattle.std.proofs.Common.{◌≡◌, ◌+◌, ◌<◌, Bool, true, false, cond, List, [], ◌∷◌, ◌++◌, refl, sym, ap, ◌∙◌, subst, arith, IsPermutation}
use Rattle.std.specs.List.{sum_by, fold}
use Rattle.std.proofs.lemmas.List.Sums.{sum_by-append, sum_by-cons}
use Rattle.std.proofs.lemmas.List.Sorted.{IsPermutation-refl, IsPermutation-sym, IsPermutation-cons, IsPermutation-trans, IsPermutation-middle}
use Rattle.hv_bag.specs.Bag.{SameBag, TellsApart, count}
use Rattle.hv_bag.proofs.Bags.{same_from_permutation}

-- a value stands in a list, between what is before it and what is behind it
pub record StandsIn {X : Type 0} (x : X) (ys : List X) : Type 0 where
  pub front : List X
  pub back : List X
  pub is : ys ≡ front ++ x ∷ back

-- counts of longer lists
pub count_more : {X : Type 0} (same : X → X → Bool) (x y : X) (ys : List X) → count same x (y ∷ ys) ≡ cond (same x y) 1 0 + count same x ys
count_more same x y ys = sum_by-cons (λ z. cond (same x z) 1 0) y ys

pub count_itself : {X : Type 0} (same : X → X → Bool) → TellsApart same → (x : X) (xs : List X) → count same x (x ∷ xs) ≡ 1 + count same x xs
count_itself same apart x xs = count_more same x x xs ∙ rw (apart.itself x)

pub count_append : {X : Type 0} (same : X → X → Bool) (x : X) (xs ys : List X) → count same x (xs ++ ys) ≡ count same x xs + count same x ys
count_append same x xs ys = sum_by-append (λ z. cond (same x z) 1 0) xs ys

pub count_middle : {X : Type 0} (same : X → X → Bool) (z x : X) (front back : List X)
    → count same z (front ++ x ∷ back) ≡ cond (same z x) 1 0 + count same z (front ++ back)
count_middle same z x front back =
    omega (arith, count_append same z front (x ∷ back), count_more same z x back, count_append same z front back)

-- what is counted stands somewhere
pub stands_in : {X : Type 0} (same : X → X → Bool) → TellsApart same → (x : X) (ys : List X) → 0 < count same x ys → StandsIn x ys
stands_in same apart x [] some = absurd (omega arith)
stands_in {X} same apart x (y ∷ ys) some = go (same x y) refl (stands_in same apart x ys)
  where
    go : (b : Bool) → same x y ≡ b → (0 < count same x ys → StandsIn x ys) → StandsIn x (y ∷ ys)
    go true e later = record { front = []; back = ys; is = ap (λ z. z ∷ ys) (sym (apart.equal x y e)) }
    go false e later =
        let more : 0 < 0 + count same x ys = subst (λ b. 0 < cond b 1 0 + count same x ys) e (subst (λ n. 0 < n) (count_more same x y ys) some) in
        let r = later (omega (arith, more)) in
        record { front = y ∷ r.front; back = r.back; is = ap (λ l. y ∷ l) r.is }

-- equal counts are a permutation
pub permutation_from_counts : {X : Type 0} (same : X → X → Bool) → TellsApart same → (xs ys : List X)
    → ((x : X) → count same x xs ≡ count same x ys) → IsPermutation xs ys
permutation_from_counts same apart [] [] h = IsPermutation-refl []
permutation_from_counts same apart [] (y ∷ ys) h =
    let e : 0 ≡ 1 + count same y ys = h y ∙ count_itself same apart y ys in
    absurd (omega arith)
permutation_from_counts {X} same apart (x ∷ xs) ys h =
    let r = stands_in same apart x ys (omega (arith, h x, count_itself same apart x xs)) in
    let tail : (z : X) → count same z xs ≡ count same z (r.front ++ r.back) = λ z.
    omega (arith, h z, count_more same z x xs, ap (count same z) r.is, count_middle same z x r.front r.back) in
    let rest = permutation_from_counts same apart xs (r.front ++ r.back) tail in
    let moved : IsPermutation (x ∷ xs) (r.front ++ x ∷ r.back) =
    IsPermutation-trans _ _ _ (IsPermutation-cons x _ _ rest) (IsPermutation-sym _ _ (IsPermutation-middle r.front x r.back)) in
    subst (IsPermutation (x ∷ xs)) (sym r.is) moved

-- equal bags have equal counts
pub counts_from_same : {X : Type 0} (same : X → X → Bool) (xs ys : List X) → SameBag xs ys → (x : X) → count same x xs ≡ count same x ys
counts_from_same same xs ys h x = h.weighs (λ z. cond (same x z) 1 0)

pub permutation_from_same : {X : Type 0} (same : X → X → Bool) → TellsApart same → (xs ys : List X) → SameBag xs ys → IsPermutation xs ys
permutation_from_same same apart xs ys h = permutation_from_counts same apart xs ys (counts_from_same same xs ys h)

pub same_from_counts : {X : Type 0} (same : X → X → Bool) → TellsApart same → (xs ys : List X)
    → ((x : X) → count same x xs ≡ count same x ys) → SameBag xs ys
same_from_counts same apart xs ys h = same_from_permutation xs ys (permutation_from_counts same apart xs ys h)

-- a step is taken first as well as later, where steps may be exchanged
fold_led : {X Y : Type 0} (step : Y → X → Y) → ((u : Y) (x y : X) → step (step u x) y ≡ step (step u y) x) → (u : Y) (front : List X) (x : X) (back : List X)
    → fold step u (front ++ x ∷ back) ≡ fold step (step u x) (front ++ back)
fold_led step turns u [] x back = refl
fold_led step turns u (y ∷ front) x back =
    fold_led step turns (step u y) front x back ∙ ap (λ v. fold step v (front ++ back)) (turns u y x)

pub fold_same : {X Y : Type 0} (same : X → X → Bool) (step : Y → X → Y) (start : Y) (xs ys : List X) → TellsApart same
    → ((u : Y) (x y : X) → step (step u x) y ≡ step (step u y) x) → SameBag xs ys → fold step start xs ≡ fold step start ys
fold_same same step start [] [] apart turns h = refl
fold_same same step start [] (y ∷ ys) apart turns h =
    let e : 0 ≡ 1 + count same y ys = counts_from_same same [] (y ∷ ys) h y ∙ count_itself same apart y ys in
    absurd (omega arith)
fold_same same step start (x ∷ xs) ys apart turns h =
    let r = stands_in same apart x ys (omega (arith, counts_from_same same (x ∷ xs) ys h x, count_itself same apart x xs)) in
    let tail : SameBag xs (r.front ++ r.back) = record {
      weighs = λ w. omega (
        arith,
        h.weighs w,
        sum_by-cons w x xs,
        ap (sum_by w) r.is,
        sum_by-append w r.front (x ∷ r.back),
        sum_by-cons w x r.back,
        sum_by-append w r.front r.back,
      );
    } in
    fold_same same step (step start x) xs (r.front ++ r.back) apart turns tail
    ∙ sym (ap (fold step start) r.is ∙ fold_led step turns start r.front x r.back)
