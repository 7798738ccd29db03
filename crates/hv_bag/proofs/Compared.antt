-- Sorted references to two lists tie exactly where the lists are one bag.
use Rattle.std.proofs.Common.{◌≡◌, ◌+◌, ◌<◌, Bool, true, List, [], ◌∷◌, map, length, get_or, refl, sym, ap, ap₂, ◌∙◌, subst, arith, nat_eq, Ordering, Less, Equal, Greater, is_lt, IsPermutation, IsSorted}
use Rattle.std.specs.Cmp.{IsTotalOrder}
use Rattle.std.specs.Cmp.Lexicographic.{slice_cmp}
use Rattle.std.specs.Ordering.{ordering_then, ordering_index}
use Rattle.std.proofs.lemmas.Cmp.{tied_itself, lists_total}
use Rattle.std.proofs.lemmas.List.{length-map, get_or-map}
use Rattle.hv_bag.specs.Bag.{SameBag, TiesEqualsAlone}
use Rattle.hv_bag.proofs.Bags.{same_sym, same_trans, same_from_permutation}
use Rattle.hv_bag.proofs.Orders.{sorted_once, list_ties}

-- sorted references are sorted values
pub sorted_map : {X Y : Type 0} (cmp : Y → Y → Ordering) (f : X → Y) (xs : List X) → IsSorted (λ x y. cmp (f x) (f y)) xs → IsSorted cmp (map f xs)
sorted_map cmp f [] up = λ k d p q. absurd (omega arith)
sorted_map cmp f (x ∷ xs) up = λ k d p q.
    let short : k + 1 < length (x ∷ xs) = omega (arith, simp length-map at q) in
    let e : get_or (map f (x ∷ xs)) k d ≡ f (get_or (x ∷ xs) k x) = get_or-map f (x ∷ xs) k x d (omega arith) in
    let e2 : get_or (map f (x ∷ xs)) (k + 1) d ≡ f (get_or (x ∷ xs) (k + 1) x) = get_or-map f (x ∷ xs) (k + 1) x d short in
    ap is_lt (ap₂ cmp e2 e) ∙ up k x p short

-- references are compared by their values
slice_cmp-map : {X Y : Type 0} (cmp : Y → Y → Ordering) (f : X → Y) (xs ys : List X)
    → slice_cmp (λ x y. cmp (f x) (f y)) xs ys ≡ slice_cmp cmp (map f xs) (map f ys)
slice_cmp-map cmp f [] [] = refl
slice_cmp-map cmp f [] (y ∷ ys) = refl
slice_cmp-map cmp f (x ∷ xs) [] = refl
slice_cmp-map cmp f (x ∷ xs) (y ∷ ys) = ap (ordering_then (cmp (f x) (f y))) (slice_cmp-map cmp f xs ys)

pub same_iff : {X P : Type 0} (cmp : X → X → Ordering) → IsTotalOrder cmp → TiesEqualsAlone cmp → (f : P → X) (a b : List X) (p q : List P)
    → IsPermutation a (map f p) → IsSorted cmp (map f p) → IsPermutation b (map f q) → IsSorted cmp (map f q)
    → (o : Ordering) → o ≡ slice_cmp (λ x y. cmp (f x) (f y)) p q → (o ≡ Equal → SameBag a b) × (SameBag a b → o ≡ Equal)
same_iff {X} cmp total alone f a b p q pa sa pb sb o e =
    let left : SameBag a (map f p) = same_from_permutation a (map f p) pa in
    let right : SameBag b (map f q) = same_from_permutation b (map f q) pb in
    let by : o ≡ slice_cmp cmp (map f p) (map f q) = e ∙ slice_cmp-map cmp f p q in (
      (λ tie. let one : map f p ≡ map f q = list_ties cmp alone (map f p) (map f q) (sym by ∙ tie) in
          same_trans left (subst (λ l. SameBag l b) (sym one) (same_sym right))),
      (λ h. let one : map f p ≡ map f q = sorted_once cmp (map f p) (map f q) total alone sa sb (same_trans (same_sym left) (same_trans h right)) in
          by ∙ subst (λ l. slice_cmp cmp (map f p) l ≡ Equal) one (tied_itself (lists_total total) (map f p))),
    )

-- the answer to a test for a tie
index_tied : (o : Ordering) → nat_eq (ordering_index o) 1 ≡ true → o ≡ Equal
index_tied Less h = cc
index_tied Equal h = refl
index_tied Greater h = cc

pub tested : (o : Ordering) (b : Bool) {P : Type 0} → (o ≡ Equal → P) × (P → o ≡ Equal) → b ≡ nat_eq (ordering_index o) 1 → (b ≡ true → P) × (P → b ≡ true)
tested o b h e = ((λ t. h.0 (index_tied o (sym e ∙ t))), (λ p. e ∙ ap (λ v. nat_eq (ordering_index v) 1) (h.1 p)))
