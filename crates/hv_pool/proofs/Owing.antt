-- What each call leaves of the pages that are owed.
use Rattle.std.proofs.Common.{◌≡◌, ℕ, ◌+◌, ◌<◌, Bool, true, false, cond, ◌&&◌, ◌||◌, not, nat_eq, if◌then◌else◌, List, [], ◌∷◌, map, get_or, refl, sym, ap, ◌∙◌, arith, true≢false}
use Rattle.std.specs.Int.{w64, trailing_zeros}
use Rattle.std.specs.List.{count_by}
use Rattle.std.proofs.lemmas.Bool.{eqb-true, eqb-false, eq-eqb}
use Rattle.std.proofs.lemmas.Nat.Bits.{bit_at-zero, bit_at-trailing_zeros}
use Rattle.std.proofs.lemmas.List.Sums.{sum_by-cons}
use Rattle.hv_frames.specs.Frames.{Framed}
use Rattle.hv_pool.specs.declared.key.PageKey.{PageKey}
use Rattle.hv_pool.specs.declared.slot.Held.{Held}
use Rattle.hv_pool.specs.declared.slot.Held.TheVariants as held
use Rattle.hv_pool.specs.declared.slot.Slot.{Slot}
use Rattle.hv_pool.specs.declared.slot.Arrival.{Arrival}
use Rattle.hv_pool.specs.declared.seen.Ask.{Ask}
use Rattle.hv_pool.specs.declared.seen.Ask.TheVariants as ask
use Rattle.hv_pool.specs.Key.{same_key}
use Rattle.hv_pool.specs.Slots.{Pooled, IsPool, IsAway, stands, under, is_free, is_cached, is_open, is_gone, is_owed, owed_at, cached_at, is_numbered, is_reading, is_in_hand, waits_bit}
use Rattle.hv_pool.specs.Moves.{Asks, Arrives, Forgets, is_hit, brings, brings_owed, notes, taken_by, started_by, joined_by, returned, cached_as, freed, forgotten}
use Rattle.hv_pool.proofs.Places.{weighed, both, count_le, find, some_here, get_or_any, no_slot}
use Rattle.hv_pool.proofs.Laws.{moves_weigh, and_false}
use Rattle.hv_pool.proofs.Others.{came, the_place, same_count}

not_true : (b : Bool) → not b ≡ true → b ≡ false
not_true true e = absurd (true≢false (sym e))
not_true false e = refl

-- where a page is owed, a session waits for it
pub owed_to : (p : Pooled) (key : PageKey) → IsPool p → 0 < count_by (owed_at key) p.slots → (who : ℕ) × (who < 64) × (0 < count_by (λ s. cached_at key s && waits_bit who s.waits) p.slots)
owed_to p key pool some =
    let r = find (owed_at key) p.slots some in
    let s : Slot = get_or p.slots r.0 no_slot in
    let e = both (is_owed s) (same_key key s.key) (r.2 no_slot) in
    let f = both (is_cached s.held) (not (nat_eq s.waits 0)) e.0 in
    let ne = eqb-false s.waits 0 (not_true (nat_eq s.waits 0) f.1) in
    let w = bit_at-trailing_zeros w64 s.waits (omega (arith, ne)) (pool.holds r.0 no_slot r.1).narrow in
    let who : ℕ = trailing_zeros w64 s.waits in (
      who,
      w.0,
      some_here p.slots r.0 s (λ x. cached_at key x && waits_bit who x.waits) r.1 (get_or_any p.slots r.0 no_slot s r.1)
          (ap (λ b. (b && same_key key s.key) && waits_bit who s.waits) f.0 ∙ ap (λ b. b && waits_bit who s.waits) e.1 ∙ eq-eqb _ 1 w.1),
    )

-- nobody waits for a page that isn't owed
pub waited_owed : (p : Pooled) (key : PageKey) (who : ℕ) → 0 < count_by (λ s. cached_at key s && waits_bit who s.waits) p.slots → 0 < count_by (owed_at key) p.slots
waited_owed p key who some = omega (arith, some, count_le (λ s. cached_at key s && waits_bit who s.waits) (owed_at key) p.slots owes)
  where
    owes : (s : Slot) → cached_at key s && waits_bit who s.waits ≡ true → owed_at key s ≡ true
    owes s e =
        let f = both (cached_at key s) (waits_bit who s.waits) e in
        let g = both (is_cached s.held) (same_key key s.key) f.0 in
        ap (λ b. (b && not (nat_eq s.waits 0)) && same_key key s.key) g.0 ∙ ap (λ b. not (nat_eq s.waits 0) && b) g.1 ∙ go (nat_eq s.waits 0) refl f.1
      where
        go : (b : Bool) → nat_eq s.waits 0 ≡ b → waits_bit who s.waits ≡ true → not (nat_eq s.waits 0) && true ≡ true
        go false q w = ap (λ b. not b && true) q
        go true q w = absurd (true≢false (sym w ∙ ap (λ (n : ℕ). waits_bit who n) (eqb-true s.waits 0 q) ∙ ap (λ (n : ℕ). nat_eq n 1) (bit_at-zero who)))

open_unowed : (k : PageKey) (s : Slot) → is_open s ≡ true → owed_at k s ≡ false
open_unowed k s opens = ap (λ b. b && same_key k s.key) (go s.held (nat_eq s.waits 0) opens)
  where
    go : (h : Held) (none : Bool) → is_free h || (is_cached h && none) ≡ true → is_cached h && not none ≡ false
    go held.Free none o = refl
    go held.Cached true o = refl
    go held.Cached false o = absurd (true≢false (sym o))
    go (held.Reading who) none o = absurd (true≢false (sym o))
    go (held.InHand who) none o = absurd (true≢false (sym o))

owed_under : (k : PageKey) (s : Slot) → owed_at k s ≡ true → under k s ≡ true
owed_under k s e =
    let f = both (is_owed s) (same_key k s.key) e in
    ap (λ b. b && same_key k s.key) (go s.held (nat_eq s.waits 0) f.0) ∙ f.1
  where
    go : (h : Held) (none : Bool) → is_cached h && not none ≡ true → stands h ≡ true
    go held.Free none o = o
    go held.Cached none o = refl
    go (held.Reading who) none o = refl
    go (held.InHand who) none o = refl

-- an ask leaves all pages owed but the one that it gets
pub asks_leave_owed : (old new : Pooled) (key : PageKey) (who : ℕ) (answer : Ask) → IsPool old → Asks old key who answer new → (k : PageKey) → count_by (owed_at k) new.slots ≡ (if is_hit answer && same_key k key then 0 else count_by (owed_at k) old.slots)
asks_leave_owed old new key who (ask.Hit frame formed) pool h k = go (same_key k key) refl
  where
    mine : (b : Bool) → same_key k key ≡ b → same_key k h.slot.key ≡ b
    mine b e = ap (same_key k) h.named ∙ e

    go : (b : Bool) → same_key k key ≡ b → count_by (owed_at k) new.slots ≡ (if b then 0 else count_by (owed_at k) old.slots)
    go true e =
        omega (
          arith,
          pool.keys k,
          weighed (λ x. cond (under k x) 1 0) old.slots h.slot h.change.rest h.change.were,
          ap {B = ℕ} (λ z. cond z 1 0) (ap (λ x. stands x && same_key k h.slot.key) h.is ∙ mine true e),
          weighed (λ x. cond (owed_at k x) 1 0) new.slots (taken_by who h.slot) h.change.rest h.change.are,
          count_le (owed_at k) (under k) h.change.rest (owed_under k),
        )
    go false e = same_count old new h.slot (taken_by who h.slot) h.change (owed_at k) (sym (ap (λ b. is_owed h.slot && b) (mine false e) ∙ and_false (is_owed h.slot)))
asks_leave_owed old new key who (ask.Start frame) pool h k = same_count old new h.slot (started_by who key h.slot) h.change (owed_at k) (sym (open_unowed k h.slot h.is))
asks_leave_owed old new key who (ask.Reading other) pool h k =
    same_count old new h.slot (joined_by who h.slot) h.change (owed_at k)
    (off (joined_by who h.slot) h.is ∙ sym (off h.slot h.is))
  where
    off : (s : Slot) → s.held ≡ held.Reading other → owed_at k s ≡ false
    off s is = ap (λ x. (is_cached x && not (nat_eq s.waits 0)) && same_key k s.key) is
asks_leave_owed old new key who (ask.Busy holder) pool h k = ap (λ (p : Pooled). count_by (owed_at k) p.slots) h.same
asks_leave_owed old new key who (ask.Full frames) pool h k = ap (λ (p : Pooled). count_by (owed_at k) p.slots) h.0

gone_unowed : (k : PageKey) (s : Slot) → is_gone s ≡ true → owed_at k s ≡ false
gone_unowed k s gone = ap (λ b. b && same_key k s.key) (go s.held (nat_eq s.waits 0) gone)
  where
    go : (h : Held) (none : Bool) → is_reading h || is_in_hand h ≡ true → is_cached h && not none ≡ false
    go held.Free none o = refl
    go held.Cached none o = absurd (true≢false (sym o))
    go (held.Reading who) none o = refl
    go (held.InHand who) none o = refl

-- where a frame comes back, its page is owed where sessions wait for it, and all others as before
pub arrivals_leave_owed : (way : Arrival) (old new : Pooled) (key : PageKey) (frame : Framed) → IsPool old → IsAway old frame → Arrives way old key frame new → (k : PageKey) → count_by (owed_at k) new.slots ≡ count_by (owed_at k) old.slots + count_by (brings_owed way key frame k) old.slots
arrivals_leave_owed way old new key frame pool away a k =
    let r = came way old key frame new a in
    let after : Slot = returned (brings way) (notes way) key frame old.came r.slot in
    omega (
      arith,
      moves_weigh old new r.slot after r.change (λ s. cond (owed_at k s) 1 0),
      ap {B = ℕ} (λ z. cond z 1 0) (gone_unowed k r.slot (the_place way old key frame new pool r is_gone away.away)),
      ap {B = ℕ} (λ z. cond z 1 0) (comes r.slot r.number (brings way r.slot.held && same_key key r.slot.key) refl),
      weighed (λ s. cond (brings_owed way key frame k s) 1 0) old.slots r.slot r.change.rest r.change.were,
      pool.numbers frame.number,
      weighed (λ s. cond (is_numbered frame.number s) 1 0) old.slots r.slot r.change.rest r.change.were,
      ap {B = ℕ} (λ z. cond z 1 0) (eq-eqb r.slot.number frame.number r.number),
      count_le (brings_owed way key frame k) (is_numbered frame.number) r.change.rest (λ s e. (both (nat_eq s.number frame.number) _ e).0),
    )
  where
    comes : (s : Slot) → s.number ≡ frame.number → (b : Bool) → brings way s.held && same_key key s.key ≡ b → owed_at k (if b then cached_as old.came (notes way) frame s else freed frame s) ≡ brings_owed way key frame k s
    comes s number b e = go b ∙ sym (ap (λ z. z && ((brings way s.held && same_key key s.key) && (not (nat_eq s.waits 0) && same_key k s.key))) (eq-eqb s.number frame.number number) ∙ ap (λ z. z && (not (nat_eq s.waits 0) && same_key k s.key)) e)
      where
        go : (c : Bool) → owed_at k (if c then cached_as old.came (notes way) frame s else freed frame s) ≡ (c && (not (nat_eq s.waits 0) && same_key k s.key))
        go true = refl
        go false = refl

-- a page is owed yet where another session waits for it
pub forgets_leave_owed : (old new : Pooled) (who : ℕ) → Forgets old who new → (k : PageKey) → count_by (owed_at k) new.slots ≡ count_by (λ s. owed_at k (forgotten who s)) old.slots
forgets_leave_owed old new who f k = ap (count_by (owed_at k)) f.slots ∙ go old.slots
  where
    go : (xs : List Slot) → count_by (owed_at k) (map (forgotten who) xs) ≡ count_by (λ s. owed_at k (forgotten who s)) xs
    go [] = refl
    go (x ∷ xs) = omega (arith, go xs, sum_by-cons (λ s. cond (owed_at k s) 1 0) (forgotten who x) (map (forgotten who) xs), sum_by-cons (λ s. cond (owed_at k (forgotten who s)) 1 0) x xs)
