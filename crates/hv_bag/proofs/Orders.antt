-- Orders that tie equal values alone: two sorted lists of one bag are one list.
use Rattle.std.proofs.Common.{◌≡◌, suc, ◌<◌, Bool, true, false, List, [], ◌∷◌, ◌++◌, length, get_or, refl, sym, ap, ap₂, ◌∙◌, subst, arith, add-one, length-append, Ordering, Less, Equal, Greater, is_lt, is_eq, true≢false, IsSorted}
use Rattle.std.specs.Cmp.{IsTotalOrder}
use Rattle.std.specs.Cmp.Lexicographic.{slice_cmp}
use Rattle.std.specs.Ordering.{ordering_reverse, ordering_then, eq_by_cmp, nat_cmp, int_cmp}
use Rattle.std.proofs.lemmas.Cmp.{tied_itself, ranked, int_ranked, by_ranked}
use Rattle.std.proofs.lemmas.List.Sums.{sum_by-cons}
use Rattle.std.proofs.lemmas.List.Sorted.{sorted_far, ranks_by}
use Rattle.hv_bag.specs.Bag.{SameBag, TellsApart, TiesEqualsAlone}
use Rattle.hv_bag.proofs.Bags.{same_length}
use Rattle.hv_bag.proofs.Counts.{StandsIn, stands_in, counts_from_same, count_itself}

-- such an order tells values apart
pub apart_from_order : {X : Type 0} (cmp : X → X → Ordering) → IsTotalOrder cmp → TiesEqualsAlone cmp → TellsApart (eq_by_cmp cmp)
apart_from_order {X} cmp total alone =
    record { itself = λ x. ap is_eq (tied_itself total x); equal = λ x y h. alone x y (by (cmp x y) h) }
  where
    by : (o : Ordering) → is_eq o ≡ true → o ≡ Equal
    by Less h = absurd (true≢false (sym h))
    by Equal h = refl
    by Greater h = absurd (true≢false (sym h))

-- a value in the middle of a list is at the length of what is before it
at_front : {X : Type 0} (front back : List X) (x : X) → get_or (front ++ x ∷ back) (length front) x ≡ x
at_front [] back x = refl
at_front (y ∷ front) back x = at_front front back x

-- nothing in a sorted list is less than the one that leads
not_less : {X : Type 0} (cmp : X → X → Ordering) → IsTotalOrder cmp → (x : X) (xs : List X) → IsSorted cmp (x ∷ xs) → (y : X) → StandsIn y (x ∷ xs)
    → is_lt (cmp y x) ≡ false
not_less cmp total x xs up y at =
    let far = sorted_far (λ a b. is_lt (cmp a b)) (ranks_by total (λ z. z)) (x ∷ xs) up 0 (length at.front) y (omega arith)
    (omega (arith, ap length at.is, length-append at.front (y ∷ at.back))) in
    let here : get_or (x ∷ xs) (length at.front) y ≡ y = ap (λ l. get_or l (length at.front) y) at.is ∙ at_front at.front at.back y in
    subst (λ z. is_lt (cmp z x) ≡ false) here far

-- values of which neither is less tie
neither : {X : Type 0} (cmp : X → X → Ordering) → IsTotalOrder cmp → (x y : X) → is_lt (cmp x y) ≡ false → is_lt (cmp y x) ≡ false → cmp x y ≡ Equal
neither cmp total x y h k = go (cmp x y) refl h
  where
    go : (o : Ordering) → cmp x y ≡ o → is_lt o ≡ false → cmp x y ≡ Equal
    go Less e h = absurd (true≢false h)
    go Equal e h = e
    go Greater e h = absurd (true≢false (sym (ap is_lt (total.antisymm y x ∙ ap ordering_reverse e)) ∙ k))

tail_sorted : {X : Type 0} (cmp : X → X → Ordering) (x : X) (xs : List X) → IsSorted cmp (x ∷ xs) → IsSorted cmp xs
tail_sorted cmp x xs up = λ k d p q. rw add-one (rw add-one at (up (suc k) d (omega arith) (omega arith)))

-- what leads one of two equal bags stands in the other
leader_in : {X : Type 0} (same : X → X → Bool) → TellsApart same → (x : X) (xs ys : List X) → SameBag (x ∷ xs) ys → StandsIn x ys
leader_in same apart x xs ys h = stands_in same apart x ys (omega (arith, counts_from_same same (x ∷ xs) ys h x, count_itself same apart x xs))

pub sorted_once : {X : Type 0} (cmp : X → X → Ordering) (xs ys : List X) → IsTotalOrder cmp → TiesEqualsAlone cmp → IsSorted cmp xs → IsSorted cmp ys
    → SameBag xs ys → xs ≡ ys
sorted_once cmp [] [] total alone up over h = refl
sorted_once cmp [] (y ∷ ys) total alone up over h = absurd (omega (arith, same_length [] (y ∷ ys) h))
sorted_once cmp (x ∷ xs) [] total alone up over h = absurd (omega (arith, same_length (x ∷ xs) [] h))
sorted_once {X} cmp (x ∷ xs) (y ∷ ys) total alone up over h =
    let apart = apart_from_order cmp total alone in
    let x_in = leader_in (eq_by_cmp cmp) apart x xs (y ∷ ys) h in
    let y_in = leader_in (eq_by_cmp cmp) apart y ys (x ∷ xs) (record { weighs = λ w. sym (h.weighs w) }) in
    let e : x ≡ y = alone x y (neither cmp total x y (not_less cmp total y ys over x x_in) (not_less cmp total x xs up y y_in)) in
    let tails : SameBag xs ys = record { weighs = λ w. omega (arith, h.weighs w, sum_by-cons w x xs, sum_by-cons w y ys, ap w e) } in
    ap₂ (λ a l. a ∷ l) e (sorted_once cmp xs ys total alone (tail_sorted cmp x xs up) (tail_sorted cmp y ys over) tails)

-- orders of lists and of numbers tie equal values alone
pub list_ties : {X : Type 0} (cmp : X → X → Ordering) → TiesEqualsAlone cmp → TiesEqualsAlone (slice_cmp cmp)
list_ties cmp alone [] [] h = refl
list_ties cmp alone [] (y ∷ ys) h = cc
list_ties cmp alone (x ∷ xs) [] h = cc
list_ties cmp alone (x ∷ xs) (y ∷ ys) h = go (cmp x y) refl h (list_ties cmp alone xs ys)
  where
    go : (o : Ordering) → cmp x y ≡ o → ordering_then o (slice_cmp cmp xs ys) ≡ Equal → (slice_cmp cmp xs ys ≡ Equal → xs ≡ ys) → x ∷ xs ≡ y ∷ ys
    go Less e h more = cc
    go Equal e h more = ap₂ (λ a l. a ∷ l) (alone x y e) (more h)
    go Greater e h more = cc

pub nat_ties : TiesEqualsAlone nat_cmp
nat_ties x y tie = by_ranked (x < y) (x ≡ y) (y < x) (nat_cmp x y) (ranked x y (nat_cmp x y) refl) (λ e h. cc) (λ e h. h) (λ e h. cc)

pub int_ties : TiesEqualsAlone int_cmp
int_ties x y tie = by_ranked _ (x ≡ y) _ (int_cmp x y) (int_ranked x y (int_cmp x y) refl) (λ e h. cc) (λ e h. h) (λ e h. cc)
