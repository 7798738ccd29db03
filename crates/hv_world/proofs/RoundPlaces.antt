-- Rising places: how many stand at or before one.
use Rattle.std.proofs.Common.{◌≡◌, ℕ, zero, suc, ◌+◌, ◌-◌, ◌<◌, ◌≤◌, Bool, true, false, List, [], ◌∷◌, length, take, count_by, refl, sym, ap, ◌∙◌, arith, get_or, take_all, le_refl}
use Rattle.std.specs.Prelude.{nat_lt, if◌then◌else◌}
use Rattle.std.specs.List.Sorted.{IsNonDecreasingBy, IsPartitionPoint}
use Rattle.std.proofs.lemmas.List.Sums.{count_by_more_no, count_by_more_yes}
use Rattle.hv_model.specs.declared.script.Script.{Script}
use Rattle.hv_model.specs.declared.reply.Reply.{Reply}
use Rattle.hv_model.specs.Sessions.{count_before}
use Rattle.hv_world.specs.World.{ready_from}

-- as many elements pass a test as stand before the first that fails it
count_before_point : {X : Type 0} (p : X → Bool) (xs : List X) (i : ℕ) (d : X) → i ≤ length xs → IsPartitionPoint (λ y. p y ≡ true) (λ y. p y ≡ false) xs i → (k : ℕ) → k ≤ i → count_by p (take k xs) ≡ k
count_before_point p xs i d within parted zero le = refl
count_before_point p xs i d within parted (suc k) le =
    let before : count_by p (take k xs) ≡ k = count_before_point p xs i d within parted k (omega arith) in
    let more : count_by p (take (k + 1) xs) ≡ count_by p (take k xs) + 1 = count_by_more_yes p xs k d (omega arith) (parted.0 k d (omega arith) (omega arith)) in
    let up : suc k ≡ k + 1 = omega arith in
    rw up (more ∙ ap (λ (n : ℕ). n + 1) before)

count_behind_point : {X : Type 0} (p : X → Bool) (xs : List X) (i : ℕ) (d : X) → IsPartitionPoint (λ y. p y ≡ true) (λ y. p y ≡ false) xs i → (k : ℕ) → i + k ≤ length xs
    → count_by p (take (i + k) xs) ≡ count_by p (take i xs)
count_behind_point p xs i d parted zero le = let none : i + 0 ≡ i = omega arith in rw none refl
count_behind_point p xs i d parted (suc k) le =
    let before : count_by p (take (i + k) xs) ≡ count_by p (take i xs) = count_behind_point p xs i d parted k (omega arith) in
    let more : count_by p (take (i + k + 1) xs) ≡ count_by p (take (i + k) xs) = count_by_more_no p xs (i + k) d (omega arith) (parted.1 (i + k) d (omega arith) (omega arith)) in
    let up : i + suc k ≡ i + k + 1 = omega arith in
    rw up (more ∙ before)

pub count_parted : {X : Type 0} (p : X → Bool) (xs : List X) (i : ℕ) (d : X) → i ≤ length xs → IsPartitionPoint (λ y. p y ≡ true) (λ y. p y ≡ false) xs i → count_by p xs ≡ i
count_parted {X} p xs i d within parted =
    let all : take (i + (length xs - i)) xs ≡ xs = take_all (i + (length xs - i)) xs (omega arith) in
    ap (λ (ys : List X). count_by p ys) (sym all) ∙ count_behind_point p xs i d parted (length xs - i) (omega arith) ∙ count_before_point p xs i d within parted i (le_refl i)

-- one more before rising numbers that are no less
rising_more : (x : ℕ) (xs : List ℕ) → IsNonDecreasingBy (λ (n : ℕ). n) xs → ((k d : ℕ) → k < length xs → x ≤ get_or xs k d) → IsNonDecreasingBy (λ (n : ℕ). n) (x ∷ xs)
rising_more x xs rising least zero zero d le below = le_refl x
rising_more x xs rising least zero (suc j) d le below = least j d (omega arith)
rising_more x xs rising least (suc i) zero d le below = absurd (omega arith)
rising_more x xs rising least (suc i) (suc j) d le below = rising i j d (omega arith) (omega arith)

least_more : (x : ℕ) (xs : List ℕ) → ((k d : ℕ) → k < length xs → x + 1 ≤ get_or xs k d) → (k d : ℕ) → k < length (x ∷ xs) → x ≤ get_or (x ∷ xs) k d
least_more x xs least zero d below = le_refl x
least_more x xs least (suc k) d below = let more : x + 1 ≤ get_or xs k d = least k d (omega arith) in omega arith

-- the places of the sessions that can take a step rise
ready_least : (s : Script) (p i : ℕ) (names : List (List ℕ)) (replies : List (List Reply)) (k d : ℕ) → k < length (ready_from s p i names replies) → i ≤ get_or (ready_from s p i names replies) k d
ready_least s p i [] replies k d below = absurd (omega arith)
ready_least s p i (n ∷ names) [] k d below = absurd (omega arith)
ready_least s p i (n ∷ names) (r ∷ replies) k d below =
    let rest : (j e : ℕ) → j < length (ready_from s p (i + 1) names replies) → i + 1 ≤ get_or (ready_from s p (i + 1) names replies) j e = ready_least s p (i + 1) names replies in
    elim (nat_lt (length r) (count_before s n (p + 1)))
    as (λ b. k < length (if b then i ∷ ready_from s p (i + 1) names replies else ready_from s p (i + 1) names replies)
    → i ≤ get_or (if b then i ∷ ready_from s p (i + 1) names replies else ready_from s p (i + 1) names replies) k d) [
      | true ↦ (λ lt. least_more i (ready_from s p (i + 1) names replies) rest k d lt)
      | false ↦ (λ lt. let more : i + 1 ≤ get_or (ready_from s p (i + 1) names replies) k d = rest k d lt in omega arith)
    ] below

pub ready_rising : (s : Script) (p i : ℕ) (names : List (List ℕ)) (replies : List (List Reply)) → IsNonDecreasingBy (λ (n : ℕ). n) (ready_from s p i names replies)
ready_rising s p i [] replies = λ a b d le below. absurd (omega arith)
ready_rising s p i (n ∷ names) [] = λ a b d le below. absurd (omega arith)
ready_rising s p i (n ∷ names) (r ∷ replies) =
    let rest : IsNonDecreasingBy (λ (n : ℕ). n) (ready_from s p (i + 1) names replies) = ready_rising s p (i + 1) names replies in
    elim (nat_lt (length r) (count_before s n (p + 1)))
    as (λ b. IsNonDecreasingBy (λ (n : ℕ). n) (if b then i ∷ ready_from s p (i + 1) names replies else ready_from s p (i + 1) names replies)) [
      | true ↦ rising_more i (ready_from s p (i + 1) names replies) rest
          (λ k d below. let more : i + 1 ≤ get_or (ready_from s p (i + 1) names replies) k d = ready_least s p (i + 1) names replies k d below in omega arith)
      | false ↦ rest
    ]
