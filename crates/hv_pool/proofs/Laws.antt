-- The laws of pools.
use Rattle.std.proofs.Common.{◌≡◌, ◌+◌, ◌<◌, ◌≤◌, ℕ, zero, suc, Bool, true, false, cond, ◌&&◌, ◌||◌, not, nat_eq, nat_lt, if◌then◌else◌, List, [], ◌∷◌, map, length, get_or, refl, sym, ap, ◌∙◌, arith, true≢false}
use Rattle.std.specs.List.{sum_by, count_by}
use Rattle.std.specs.Int.{w64}
use Rattle.std.proofs.lemmas.Bool.{lt-ltb}
use Rattle.std.proofs.lemmas.Nat.Bits.{bit_at_clear_same, bit_at_clear_other}
use Rattle.std.proofs.lemmas.List.Elements.{All-map}
use Rattle.std.proofs.lemmas.List.Sums.{sum_by-cons}
use Rattle.std.proofs.lemmas.List.Sorted.{length_permutation}
use Rattle.hv_pool.specs.declared.key.PageKey.{PageKey}
use Rattle.hv_pool.specs.declared.slot.Held.{Held}
use Rattle.hv_pool.specs.declared.slot.Held.TheVariants as held
use Rattle.hv_pool.specs.declared.slot.Slot.{Slot}
use Rattle.hv_pool.specs.declared.seen.Seen.TheVariants as seen
use Rattle.hv_pool.specs.Slots.{Pooled, seen_at, is_free, is_cached, is_reading, is_in_hand, is_open, is_gone, is_owed, cached_at, in_hand_at, reading_at, under, waits_at}
use Rattle.hv_pool.specs.Moves.{Moves, Forgets, forgotten}
use Rattle.hv_pool.proofs.Places.{weighed, fewer}
use Rattle.hv_pool.proofs.Made.{count_forgotten, none_pass}

none_from : (n : ℕ) → nat_lt 0 n ≡ false → n ≡ 0
none_from zero e = refl
none_from (suc n) e = absurd (true≢false (sym (lt-ltb 0 (suc n) (omega arith)) ∙ e))

-- no frame may be taken where a page finds none
pub full_shuts : (p : Pooled) (key : PageKey) → seen_at p key ≡ seen.Full → count_by is_open p.slots ≡ 0
full_shuts p key full = shut (nat_lt 0 (count_by (cached_at key) p.slots)) (nat_lt 0 (count_by (in_hand_at key) p.slots)) (nat_lt 0 (count_by (reading_at key) p.slots)) (nat_lt 0 (count_by is_open p.slots)) refl full
  where
    shut : (a b c d : Bool) → nat_lt 0 (count_by is_open p.slots) ≡ d → (if a then seen.Hit else if b then seen.Busy else if c then seen.Reading else if d then seen.Start else seen.Full) ≡ seen.Full → count_by is_open p.slots ≡ 0
    shut true b c d q e = cc
    shut false true c d q e = cc
    shut false false true d q e = cc
    shut false false false true q e = cc
    shut false false false false q e = none_from _ q

-- and one may be taken where a page finds one
start_opens : (p : Pooled) (key : PageKey) → seen_at p key ≡ seen.Start → ¬ (count_by is_open p.slots ≡ 0)
start_opens p key start none = opened (nat_lt 0 (count_by (cached_at key) p.slots)) (nat_lt 0 (count_by (in_hand_at key) p.slots)) (nat_lt 0 (count_by (reading_at key) p.slots)) (nat_lt 0 (count_by is_open p.slots)) (ap (nat_lt 0) none) start
  where
    opened : (a b c d : Bool) → d ≡ false → (if a then seen.Hit else if b then seen.Busy else if c then seen.Reading else if d then seen.Start else seen.Full) ≡ seen.Start → ⊥
    opened true b c d q e = cc
    opened false true c d q e = cc
    opened false false true d q e = cc
    opened false false false true q e = absurd (true≢false q)
    opened false false false false q e = cc

pub full_for_all : (p : Pooled) (key other : PageKey) → seen_at p key ≡ seen.Full → ¬ (seen_at p other ≡ seen.Start)
full_for_all p key other full start = start_opens p other start (full_shuts p key full)

abbrev one : Bool → ℕ
one b = cond b 1 0

pub owed_where_full : (p : Pooled) (key : PageKey) → 0 < length p.slots → count_by is_gone p.slots ≡ 0 → seen_at p key ≡ seen.Full → 0 < count_by is_owed p.slots
owed_where_full p key some none full = first p.slots some none (full_shuts p key full)
  where
    here : (s : Slot) (rest : List Slot) → one (is_gone s) ≡ 0 → one (is_open s) ≡ 0 → one (is_owed s) ≡ 1
    here s rest gone opens = go s.held (nat_eq s.waits 0) gone opens
      where
        go : (h : Held) (w : Bool) → one (is_reading h || is_in_hand h) ≡ 0 → one (is_free h || (is_cached h && w)) ≡ 0 → one (is_cached h && not w) ≡ 1
        go held.Free w g e = absurd (omega (arith, e))
        go held.Cached true g e = absurd (omega (arith, e))
        go held.Cached false g e = refl
        go (held.Reading who) w g e = absurd (omega (arith, g))
        go (held.InHand who) w g e = absurd (omega (arith, g))

    first : (xs : List Slot) → 0 < length xs → count_by is_gone xs ≡ 0 → count_by is_open xs ≡ 0 → 0 < count_by is_owed xs
    first [] l g e = absurd (omega (arith, l))
    first (x ∷ xs) l g e =
        let a : one (is_gone x) ≡ 0 = omega (arith, g, sum_by-cons (λ s. cond (is_gone s) 1 0) x xs) in
        let b : one (is_open x) ≡ 0 = omega (arith, e, sum_by-cons (λ s. cond (is_open s) 1 0) x xs) in
        omega (arith, here x xs a b, sum_by-cons (λ s. cond (is_owed s) 1 0) x xs)

-- each frame is free, or has a page, or its page is read, or it is in a hand
pub frames_all : (p : Pooled) → count_by (λ s. is_free s.held) p.slots + count_by (λ s. is_cached s.held) p.slots + count_by (λ s. is_reading s.held) p.slots + count_by (λ s. is_in_hand s.held) p.slots ≡ length p.slots
frames_all p = go p.slots
  where
    each : (h : Held) → one (is_free h) + one (is_cached h) + one (is_reading h) + one (is_in_hand h) ≡ 1
    each held.Free = refl
    each held.Cached = refl
    each (held.Reading who) = refl
    each (held.InHand who) = refl

    go : (xs : List Slot) → count_by (λ s. is_free s.held) xs + count_by (λ s. is_cached s.held) xs + count_by (λ s. is_reading s.held) xs + count_by (λ s. is_in_hand s.held) xs ≡ length xs
    go [] = refl
    go (x ∷ xs) =
        omega (
          arith,
          go xs,
          each x.held,
          sum_by-cons (λ s. cond (is_free s.held) 1 0) x xs,
          sum_by-cons (λ s. cond (is_cached s.held) 1 0) x xs,
          sum_by-cons (λ s. cond (is_reading s.held) 1 0) x xs,
          sum_by-cons (λ s. cond (is_in_hand s.held) 1 0) x xs,
        )

-- where a page finds no frame, all are away or owed
pub full_of : (p : Pooled) (key : PageKey) → seen_at p key ≡ seen.Full → count_by is_gone p.slots + count_by is_owed p.slots ≡ length p.slots
full_of p key full = omega (arith, go p.slots, full_shuts p key full)
  where
    each : (h : Held) (none : Bool) → one (is_reading h || is_in_hand h) + one (is_cached h && not none) + one (is_free h || (is_cached h && none)) ≡ 1
    each held.Free none = refl
    each held.Cached true = refl
    each held.Cached false = refl
    each (held.Reading who) none = refl
    each (held.InHand who) none = refl

    go : (xs : List Slot) → count_by is_gone xs + count_by is_owed xs + count_by is_open xs ≡ length xs
    go [] = refl
    go (x ∷ xs) =
        omega (
          arith,
          go xs,
          each x.held (nat_eq x.waits 0),
          sum_by-cons (λ s. cond (is_gone s) 1 0) x xs,
          sum_by-cons (λ s. cond (is_owed s) 1 0) x xs,
          sum_by-cons (λ s. cond (is_open s) 1 0) x xs,
        )

-- no frame comes to a pool, and none leaves it
pub moves_stay : (old new : Pooled) (before after : Slot) → Moves old new before after → length new.slots ≡ length old.slots
moves_stay old new before after m = omega (arith, length_permutation old.slots (before ∷ m.rest) m.were, length_permutation new.slots (after ∷ m.rest) m.are)

pub moves_weigh : (old new : Pooled) (before after : Slot) → Moves old new before after → (weight : Slot → ℕ) → sum_by weight new.slots + weight before ≡ sum_by weight old.slots + weight after
moves_weigh old new before after m weight = omega (arith, weighed weight old.slots before m.rest m.were, weighed weight new.slots after m.rest m.are)

-- what passed and still passes at the place that changed is counted as often at least
pub moves_keep : (old new : Pooled) (before after : Slot) → Moves old new before after → (test : Slot → Bool) → (test before ≡ true → test after ≡ true) → count_by test old.slots ≤ count_by test new.slots
moves_keep old new before after m test keeps = omega (arith, moves_weigh old new before after m (λ s. cond (test s) 1 0), fewer (test before) (test after) keeps)

pub forgets_keep : (old new : Pooled) (who : ℕ) → Forgets old who new → (test : Slot → Bool) → ((s : Slot) → test (forgotten who s) ≡ test s) → count_by test new.slots ≡ count_by test old.slots
forgets_keep old new who f test same = ap (count_by test) f.slots ∙ count_forgotten who test old.slots same

pub and_false : (b : Bool) → b && false ≡ false
and_false true = refl
and_false false = refl

-- a session whose waits end waits for no page
pub forget_ends : (old new : Pooled) (who : ℕ) → who < 64 → Forgets old who new → (key : PageKey) → count_by (waits_at who key) new.slots ≡ 0
forget_ends old new who within f key =
    ap (count_by (waits_at who key)) f.slots
    ∙ none_pass (waits_at who key) (map (forgotten who) old.slots) (All-map (λ (s : Slot). waits_at who key s ≡ false) (forgotten who) old.slots (λ k d inside. ended (get_or old.slots k d)))
  where
    ended : (s : Slot) → waits_at who key (forgotten who s) ≡ false
    ended s = ap (λ (b : ℕ). under key s && nat_eq b 1) (bit_at_clear_same w64 s.waits who within) ∙ and_false (under key s)

-- and each other session for those for which it waited
pub forget_leaves : (old new : Pooled) (who other : ℕ) → who < 64 → other < 64 → ¬ (other ≡ who) → Forgets old who new → (key : PageKey) → count_by (waits_at other key) new.slots ≡ count_by (waits_at other key) old.slots
forget_leaves old new who other within inside apart f key = forgets_keep old new who f (waits_at other key) (λ s. ap (λ (b : ℕ). under key s && nat_eq b 1) (bit_at_clear_other w64 s.waits who within other inside apart))
