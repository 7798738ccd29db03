-- Lists with the same elements, each as often: an inductive form of `IsPermutation`, by which functions of lists are shown to see no order.
use Rattle.std.proofs.Common.{ℕ, zero, suc, ◌<◌, Bool, true, false, List, [], ◌∷◌, ◌++◌, length, get_or, set, map, Option, Some, None, cond, refl, subst, append_assoc, arith}
use Rattle.std.specs.List.{swap, filter, filter_map, flat_map, cons_option}
use Rattle.std.specs.List.Sorted.{IsPermutation}
use Rattle.std.proofs.lemmas.List.Sorted.{IsPermutation-refl, IsPermutation-cons, IsPermutation-swap, IsPermutation-trans, IsPermutation-keeps, IsPermutation-append, IsPermutation-append_left, IsPermutation-append_comm}

-- one list is the other in another order
pub data Shuffled {X : Type 0} : List X → List X → Type 0 where
  none : Shuffled [] []
  more : (x : X) {xs ys : List X} → Shuffled xs ys → Shuffled (x ∷ xs) (x ∷ ys)
  turn : (x y : X) (xs : List X) → Shuffled (x ∷ y ∷ xs) (y ∷ x ∷ xs)
  join : {xs ys zs : List X} → Shuffled xs ys → Shuffled ys zs → Shuffled xs zs

-- a list is itself in some order
pub unmoved : {X : Type 0} (xs : List X) → Shuffled xs xs
unmoved [] = none
unmoved (x ∷ xs) = more x (unmoved xs)

-- an element changes places with the one that leads
led : {X : Type 0} (x : X) (xs : List X) (j : ℕ) (d : X) → j < length xs → Shuffled (x ∷ xs) (get_or xs j d ∷ set xs j x)
led x [] j d h = absurd (omega arith)
led x (y ∷ ys) zero d h = turn x y ys
led x (y ∷ ys) (suc j) d h = join (turn x y ys) (join (more y (led x ys j d (omega arith))) (turn y (get_or ys j d) (set ys j x)))

-- two elements change places
exchanged : {X : Type 0} (xs : List X) (i j : ℕ) (d : X) → i < length xs → j < length xs
    → Shuffled xs (set (set xs i (get_or xs j d)) j (get_or xs i d))
exchanged [] i j d h k = absurd (omega arith)
exchanged (x ∷ xs) zero zero d h k = unmoved (x ∷ xs)
exchanged (x ∷ xs) zero (suc j) d h k = led x xs j d (omega arith)
exchanged (x ∷ xs) (suc i) zero d h k = led x xs i d (omega arith)
exchanged (x ∷ xs) (suc i) (suc j) d h k = more x (exchanged xs i j d (omega arith) (omega arith))

-- std's exchange
swapped : {X : Type 0} (xs : List X) (i j : ℕ) → i < length xs → j < length xs → Shuffled xs (swap xs i j)
swapped [] i j h k = absurd (omega arith)
swapped (x ∷ xs) i j h k = exchanged (x ∷ xs) i j x h k

-- a permutation moves one element after another
pub from_permutation : {X : Type 0} (xs ys : List X) → IsPermutation xs ys → Shuffled xs ys
from_permutation xs ys p =
    IsPermutation-keeps xs (λ l. Shuffled xs l) (unmoved xs) (λ l i j h k s. join s (swapped l i j h k)) ys p

-- and back
pub to_permutation : {X : Type 0} {xs ys : List X} → Shuffled xs ys → IsPermutation xs ys
to_permutation none = IsPermutation-refl []
to_permutation (more x {xs = xs} {ys = ys} s) = IsPermutation-cons x xs ys (to_permutation s)
to_permutation (turn x y xs) = IsPermutation-swap (x ∷ y ∷ xs) (y ∷ x ∷ xs) 0 1 (omega arith) (omega arith) refl
to_permutation (join {xs = xs} {ys = ys} {zs = zs} s t) = IsPermutation-trans xs ys zs (to_permutation s) (to_permutation t)

-- a map keeps it
pub shuffled_map : {X Y : Type 0} (f : X → Y) {xs ys : List X} → Shuffled xs ys → Shuffled (map f xs) (map f ys)
shuffled_map f none = none
shuffled_map f (more x s) = more (f x) (shuffled_map f s)
shuffled_map f (turn x y xs) = turn (f x) (f y) (map f xs)
shuffled_map f (join s t) = join (shuffled_map f s) (shuffled_map f t)

-- an element that may stay
one_kept : {X : Type 0} (b : Bool) (x : X) {xs ys : List X} → Shuffled xs ys → Shuffled (cond b (x ∷ xs) xs) (cond b (x ∷ ys) ys)
one_kept true x s = more x s
one_kept false x s = s

-- two elements that may stay
two_kept : {X : Type 0} (b c : Bool) (x y : X) (xs : List X)
    → Shuffled (cond b (x ∷ cond c (y ∷ xs) xs) (cond c (y ∷ xs) xs)) (cond c (y ∷ cond b (x ∷ xs) xs) (cond b (x ∷ xs) xs))
two_kept true true x y xs = turn x y xs
two_kept true false x y xs = unmoved (x ∷ xs)
two_kept false true x y xs = unmoved (y ∷ xs)
two_kept false false x y xs = unmoved xs

-- a filter keeps it
pub shuffled_filter : {X : Type 0} (test : X → Bool) {xs ys : List X} → Shuffled xs ys → Shuffled (filter test xs) (filter test ys)
shuffled_filter test none = none
shuffled_filter test (more x s) = one_kept (test x) x (shuffled_filter test s)
shuffled_filter test (turn x y xs) = two_kept (test x) (test y) x y (filter test xs)
shuffled_filter test (join s t) = join (shuffled_filter test s) (shuffled_filter test t)

-- an element that there may be
one_given : {X : Type 0} (o : Option X) {xs ys : List X} → Shuffled xs ys → Shuffled (cons_option o xs) (cons_option o ys)
one_given None s = s
one_given (Some x) s = more x s

-- two elements that there may be
two_given : {X : Type 0} (o p : Option X) (xs : List X) → Shuffled (cons_option o (cons_option p xs)) (cons_option p (cons_option o xs))
two_given None p xs = unmoved (cons_option p xs)
two_given (Some x) None xs = unmoved (x ∷ xs)
two_given (Some x) (Some y) xs = turn x y xs

-- a map to what there may be keeps it
pub shuffled_filter_map : {X Y : Type 0} (h : X → Option Y) {xs ys : List X} → Shuffled xs ys → Shuffled (filter_map h xs) (filter_map h ys)
shuffled_filter_map h none = none
shuffled_filter_map h (more x s) = one_given (h x) (shuffled_filter_map h s)
shuffled_filter_map h (turn x y xs) = two_given (h x) (h y) (filter_map h xs)
shuffled_filter_map h (join s t) = join (shuffled_filter_map h s) (shuffled_filter_map h t)

-- lists joined end to end
pub shuffled_append : {X : Type 0} {xs ys us vs : List X} → Shuffled xs ys → Shuffled us vs → Shuffled (xs ++ us) (ys ++ vs)
shuffled_append {xs = xs} {ys = ys} {us = us} {vs = vs} s t =
    from_permutation (xs ++ us) (ys ++ vs) (IsPermutation-append xs ys us vs (to_permutation s) (to_permutation t))

-- two lists before a third change places
turned_lists : {X : Type 0} (xs ys zs : List X) → Shuffled (xs ++ (ys ++ zs)) (ys ++ (xs ++ zs))
turned_lists xs ys zs =
    let p = IsPermutation-append_left zs (xs ++ ys) (ys ++ xs) (IsPermutation-append_comm xs ys) in
    let s : Shuffled ((xs ++ ys) ++ zs) ((ys ++ xs) ++ zs) = from_permutation _ _ p in
    subst (λ l. Shuffled l (ys ++ (xs ++ zs))) (append_assoc xs ys zs)
    (subst (λ l. Shuffled ((xs ++ ys) ++ zs) l) (append_assoc ys xs zs) s)

-- pieces in another order
pieces : {X Y : Type 0} (f : X → List Y) {xs ys : List X} → Shuffled xs ys → Shuffled (flat_map f xs) (flat_map f ys)
pieces f none = none
pieces f (more x s) = shuffled_append (unmoved (f x)) (pieces f s)
pieces f (turn x y xs) = turned_lists (f x) (f y) (flat_map f xs)
pieces f (join s t) = join (pieces f s) (pieces f t)

-- the pieces themselves in another order
each_piece : {X Y : Type 0} (f g : X → List Y) → ((x : X) → Shuffled (f x) (g x)) → (xs : List X) → Shuffled (flat_map f xs) (flat_map g xs)
each_piece f g same [] = none
each_piece f g same (x ∷ xs) = shuffled_append (same x) (each_piece f g same xs)

-- pieces in another order, each of them in another order too
pub shuffled_flat_map : {X Y : Type 0} (f g : X → List Y) → ((x : X) → Shuffled (f x) (g x)) → {xs ys : List X} → Shuffled xs ys
    → Shuffled (flat_map f xs) (flat_map g ys)
shuffled_flat_map f g same {xs = xs} {ys = ys} s = join (pieces f s) (each_piece f g same ys)
