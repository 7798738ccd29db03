-- What the calls of one session leave of another's waits and frames.
use Rattle.std.proofs.Common.{◌≡◌, ℕ, ◌<◌, Bool, true, false, cond, ◌&&◌, ◌||◌, nat_eq, if◌then◌else◌, refl, sym, ap, ◌∙◌, arith, true≢false}
use Rattle.std.specs.List.{sum_by, count_by}
use Rattle.std.specs.Int.{w64}
use Rattle.std.proofs.lemmas.Bool.{eqb-true, eq-eqb, ne_eqb}
use Rattle.std.proofs.lemmas.Nat.Bits.{bit_at-zero, bit_at_clear_other, bit_at_set_other}
use Rattle.hv_frames.specs.Frames.{Framed}
use Rattle.hv_pool.specs.declared.key.PageKey.{PageKey}
use Rattle.hv_pool.specs.declared.slot.Held.{Held}
use Rattle.hv_pool.specs.declared.slot.Held.TheVariants as held
use Rattle.hv_pool.specs.declared.slot.Slot.{Slot}
use Rattle.hv_pool.specs.declared.slot.Arrival.{Arrival}
use Rattle.hv_pool.specs.declared.slot.Arrival.TheVariants as arrival
use Rattle.hv_pool.specs.declared.seen.Ask.{Ask}
use Rattle.hv_pool.specs.declared.seen.Ask.TheVariants as ask
use Rattle.hv_pool.specs.Key.{same_key}
use Rattle.hv_pool.specs.Slots.{Pooled, IsPool, stands, under, is_free, is_cached, is_open, is_reading_for, is_in_hand_of, is_held_by, is_numbered, waits_bit, waits_at}
use Rattle.hv_pool.specs.Moves.{Moves, Asks, Arrives, brings, notes, taken_by, started_by, joined_by, returned, cached_as, freed}
use Rattle.hv_pool.proofs.Places.{weighed, both, count_le}
use Rattle.hv_pool.proofs.Laws.{moves_weigh, and_false}

-- where a test is the same before and after, as many pass
pub same_count : (old new : Pooled) (before after : Slot) → Moves old new before after → (test : Slot → Bool) → test after ≡ test before → count_by test new.slots ≡ count_by test old.slots
same_count old new before after m test same = omega (arith, moves_weigh old new before after m (λ s. cond (test s) 1 0), ap {B = ℕ} (λ b. cond b 1 0) same)

-- nobody waits for the page of a frame that may be taken
open_unwaited : (who : ℕ) (key : PageKey) (s : Slot) → is_open s ≡ true → waits_at who key s ≡ false
open_unwaited who key s opens = go s.held (nat_eq s.waits 0) refl opens
  where
    go : (h : Held) (none : Bool) → nat_eq s.waits 0 ≡ none → is_free h || (is_cached h && none) ≡ true → (stands h && same_key key s.key) && waits_bit who s.waits ≡ false
    go held.Free none e o = refl
    go held.Cached true e o = ap (λ w. same_key key s.key && waits_bit who w) (eqb-true s.waits 0 e) ∙ ap (λ b. same_key key s.key && nat_eq b 1) (bit_at-zero who) ∙ and_false (same_key key s.key)
    go held.Cached false e o = absurd (true≢false (sym o))
    go (held.Reading other) none e o = absurd (true≢false (sym o))
    go (held.InHand other) none e o = absurd (true≢false (sym o))

-- another's ask leaves a session's waits
pub asks_leave_waits : (old new : Pooled) (key : PageKey) (who : ℕ) (answer : Ask) (other : ℕ) → who < 64 → other < 64 → ¬ (other ≡ who) → Asks old key who answer new → (k : PageKey) → count_by (waits_at other k) new.slots ≡ count_by (waits_at other k) old.slots
asks_leave_waits old new key who (ask.Hit frame formed) other a b apart h k =
    same_count old new h.slot (taken_by who h.slot) h.change (waits_at other k)
    (ap (λ (n : ℕ). same_key k h.slot.key && nat_eq n 1) (bit_at_clear_other w64 h.slot.waits who a other b apart) ∙ ap (λ x. (stands x && same_key k h.slot.key) && waits_bit other h.slot.waits) (sym h.is))
asks_leave_waits old new key who (ask.Start frame) other a b apart h k =
    same_count old new h.slot (started_by who key h.slot) h.change (waits_at other k)
    (ap (λ (n : ℕ). same_key k key && nat_eq n 1) (bit_at_set_other w64 0 who a other apart ∙ bit_at-zero other) ∙ and_false (same_key k key) ∙ sym (open_unwaited other k h.slot h.is))
asks_leave_waits old new key who (ask.Reading reader) other a b apart h k =
    same_count old new h.slot (joined_by who h.slot) h.change (waits_at other k) (ap (λ (n : ℕ). under k h.slot && nat_eq n 1) (bit_at_set_other w64 h.slot.waits who a other apart))
asks_leave_waits old new key who (ask.Busy holder) other a b apart h k = ap (λ (p : Pooled). count_by (waits_at other k) p.slots) h.same
asks_leave_waits old new key who (ask.Full frames) other a b apart h k = ap (λ (p : Pooled). count_by (waits_at other k) p.slots) h.0

-- where a weight is 0 before and after, or the same
same_sum : (old new : Pooled) (before after : Slot) → Moves old new before after → (weight : Slot → ℕ) → weight after ≡ weight before → sum_by weight new.slots ≡ sum_by weight old.slots
same_sum old new before after m weight same = omega (arith, moves_weigh old new before after m weight, same)

not_held : (other : ℕ) (s : Slot) (h : Held) → s.held ≡ h → is_reading_for other h || is_in_hand_of other h ≡ false → is_held_by other s ≡ false
not_held other s h is off = ap (λ x. is_reading_for other x || is_in_hand_of other x) is ∙ off

open_unheld : (other : ℕ) (s : Slot) → is_open s ≡ true → is_held_by other s ≡ false
open_unheld other s opens = go s.held opens
  where
    go : (h : Held) → is_free h || (is_cached h && nat_eq s.waits 0) ≡ true → is_reading_for other h || is_in_hand_of other h ≡ false
    go held.Free o = refl
    go held.Cached o = refl
    go (held.Reading who) o = absurd (true≢false (sym o))
    go (held.InHand who) o = absurd (true≢false (sym o))

-- another's ask leaves the frames that a session has, but for who else waits for their pages
pub asks_leave_frames : (old new : Pooled) (key : PageKey) (who : ℕ) (answer : Ask) (other : ℕ) → ¬ (other ≡ who) → Asks old key who answer new → (weight : Slot → ℕ) → ((s : Slot) → is_held_by other s ≡ false → weight s ≡ 0) → ((s : Slot) → weight (joined_by who s) ≡ weight s) → sum_by weight new.slots ≡ sum_by weight old.slots
asks_leave_frames old new key who (ask.Hit frame formed) other apart h weight its joins =
    same_sum old new h.slot (taken_by who h.slot) h.change weight
    (its (taken_by who h.slot) (ne_eqb who other (λ e. apart (sym e))) ∙ sym (its h.slot (not_held other h.slot held.Cached h.is refl)))
asks_leave_frames old new key who (ask.Start frame) other apart h weight its joins =
    same_sum old new h.slot (started_by who key h.slot) h.change weight
    (its (started_by who key h.slot) (ap (λ b. b || false) (ne_eqb who other (λ e. apart (sym e)))) ∙ sym (its h.slot (open_unheld other h.slot h.is)))
asks_leave_frames old new key who (ask.Reading reader) other apart h weight its joins = same_sum old new h.slot (joined_by who h.slot) h.change weight (joins h.slot)
asks_leave_frames old new key who (ask.Busy holder) other apart h weight its joins = ap (λ (p : Pooled). sum_by weight p.slots) h.same
asks_leave_frames old new key who (ask.Full frames) other apart h weight its joins = ap (λ (p : Pooled). sum_by weight p.slots) h.0

-- the place to which a frame comes back
pub record Came (way : Arrival) (old : Pooled) (key : PageKey) (frame : Framed) (new : Pooled) : Type 0 where
  pub slot : Slot
  pub number : slot.number ≡ frame.number
  pub change : Moves old new slot (returned (brings way) (notes way) key frame old.came slot)

pub came : (way : Arrival) (old : Pooled) (key : PageKey) (frame : Framed) (new : Pooled) → Arrives way old key frame new → Came way old key frame new
came arrival.Landed old key frame new a = record { slot = a.slot; number = a.number; change = a.change }
came (arrival.Back formed) old key frame new a = record { slot = a.slot; number = a.number; change = a.change }
came arrival.Lost old key frame new a = record { slot = a.slot; number = a.number; change = a.change }

-- what is found at the frame's number is so of its place
pub the_place : (way : Arrival) (old : Pooled) (key : PageKey) (frame : Framed) (new : Pooled) → IsPool old → (r : Came way old key frame new) → (test : Slot → Bool) → 0 < count_by (λ s. nat_eq s.number frame.number && test s) old.slots → test r.slot ≡ true
the_place way old key frame new pool r test some = go (test r.slot) refl
  where
    numbered : nat_eq r.slot.number frame.number ≡ true
    numbered = eq-eqb r.slot.number frame.number r.number

    go : (b : Bool) → test r.slot ≡ b → test r.slot ≡ true
    go true e = e
    go false e =
        absurd
        (omega (
          arith,
          some,
          pool.numbers frame.number,
          weighed (λ s. cond (is_numbered frame.number s) 1 0) old.slots r.slot r.change.rest r.change.were,
          ap {B = ℕ} (λ z. cond z 1 0) numbered,
          weighed (λ s. cond (nat_eq s.number frame.number && test s) 1 0) old.slots r.slot r.change.rest r.change.were,
          ap {B = ℕ} (λ z. cond (z && test r.slot) 1 0) numbered,
          ap {B = ℕ} (λ z. cond z 1 0) e,
          count_le (λ s. nat_eq s.number frame.number && test s) (is_numbered frame.number) r.change.rest (λ s q. (both (nat_eq s.number frame.number) (test s) q).0),
        ))

one_holder : (who other : ℕ) (h : Held) → is_reading_for who h || is_in_hand_of who h ≡ true → ¬ (other ≡ who) → is_reading_for other h || is_in_hand_of other h ≡ false
one_holder who other held.Free e apart = absurd (true≢false (sym e))
one_holder who other held.Cached e apart = absurd (true≢false (sym e))
one_holder who other (held.Reading h) e apart = ap (λ b. b || false) (ne_eqb h other (λ q. apart (sym q ∙ eqb-true h who (go (nat_eq h who) e))))
  where
    go : (b : Bool) → b || false ≡ true → b ≡ true
    go true o = refl
    go false o = o
one_holder who other (held.InHand h) e apart = ne_eqb h other (λ q. apart (sym q ∙ eqb-true h who e))

-- where a frame comes back that one session has, the frames that another has stay
pub arrivals_leave_frames : (way : Arrival) (old new : Pooled) (key : PageKey) (frame : Framed) (who other : ℕ) → IsPool old → Arrives way old key frame new → ¬ (other ≡ who) → 0 < count_by (λ s. nat_eq s.number frame.number && is_held_by who s) old.slots → (weight : Slot → ℕ) → ((s : Slot) → is_held_by other s ≡ false → weight s ≡ 0) → sum_by weight new.slots ≡ sum_by weight old.slots
arrivals_leave_frames way old new key frame who other pool a apart his weight its =
    let r = came way old key frame new a in
    same_sum old new r.slot (returned (brings way) (notes way) key frame old.came r.slot) r.change weight
    (its (returned (brings way) (notes way) key frame old.came r.slot) (here (brings way r.slot.held && same_key key r.slot.key) r.slot)
    ∙ sym (its r.slot (one_holder who other r.slot.held (the_place way old key frame new pool r (is_held_by who) his) apart)))
  where
    here : (b : Bool) (s : Slot) → is_held_by other (if b then cached_as old.came (notes way) frame s else freed frame s) ≡ false
    here true s = refl
    here false s = refl

-- a frame that comes back with a page stands under a key
brings_stands : (way : Arrival) (h : Held) → brings way h ≡ true → stands h ≡ true
brings_stands arrival.Landed held.Free e = e
brings_stands arrival.Landed held.Cached e = refl
brings_stands arrival.Landed (held.Reading who) e = refl
brings_stands arrival.Landed (held.InHand who) e = refl
brings_stands (arrival.Back formed) held.Free e = e
brings_stands (arrival.Back formed) held.Cached e = refl
brings_stands (arrival.Back formed) (held.Reading who) e = refl
brings_stands (arrival.Back formed) (held.InHand who) e = refl
brings_stands arrival.Lost h e = absurd (true≢false (sym e))

-- where a frame comes back with the page that it was away for, all waits stay
pub arrivals_keep_waits : (way : Arrival) (old new : Pooled) (key : PageKey) (frame : Framed) → IsPool old → Arrives way old key frame new → 0 < count_by (λ s. nat_eq s.number frame.number && (brings way s.held && same_key key s.key)) old.slots → (who : ℕ) (k : PageKey) → count_by (waits_at who k) new.slots ≡ count_by (waits_at who k) old.slots
arrivals_keep_waits way old new key frame pool a its who k =
    let r = came way old key frame new a in
    let fits = the_place way old key frame new pool r (λ s. brings way s.held && same_key key s.key) its in
    same_count old new r.slot (returned (brings way) (notes way) key frame old.came r.slot) r.change (waits_at who k)
    (ap (λ b. waits_at who k (if b then cached_as old.came (notes way) frame r.slot else freed frame r.slot)) fits
    ∙ ap (λ b. (b && same_key k r.slot.key) && waits_bit who r.slot.waits) (sym (brings_stands way r.slot.held (both (brings way r.slot.held) (same_key key r.slot.key) fits).0)))

-- the waits for each page but that under which a frame stood stay where it comes back
pub arrivals_leave_waits : (way : Arrival) (old new : Pooled) (key : PageKey) (frame : Framed) → Arrives way old key frame new → (who : ℕ) (k : PageKey) → count_by (λ s. nat_eq s.number frame.number && under k s) old.slots ≡ 0 → count_by (waits_at who k) new.slots ≡ count_by (waits_at who k) old.slots
arrivals_leave_waits way old new key frame a who k none =
    let r = came way old key frame new a in
    let off = apart r in
    same_count old new r.slot (returned (brings way) (notes way) key frame old.came r.slot) r.change (waits_at who k)
    (go r.slot off (brings way r.slot.held && same_key key r.slot.key) refl ∙ sym (ap (λ b. b && waits_bit who r.slot.waits) off))
  where
    apart : (r : Came way old key frame new) → under k r.slot ≡ false
    apart r = at (under k r.slot) refl
      where
        at : (b : Bool) → under k r.slot ≡ b → under k r.slot ≡ false
        at false e = e
        at true e =
            absurd
            (omega (
              arith,
              none,
              weighed (λ s. cond (nat_eq s.number frame.number && under k s) 1 0) old.slots r.slot r.change.rest r.change.were,
              ap {B = ℕ} (λ z. cond (z && under k r.slot) 1 0) (eq-eqb r.slot.number frame.number r.number),
              ap {B = ℕ} (λ z. cond z 1 0) e,
            ))

    go : (s : Slot) → under k s ≡ false → (b : Bool) → brings way s.held && same_key key s.key ≡ b → waits_at who k (if b then cached_as old.came (notes way) frame s else freed frame s) ≡ false
    go s off false e = refl
    go s off true e = ap (λ b. b && waits_bit who s.waits) (sym (ap (λ b. b && same_key k s.key) (brings_stands way s.held (both (brings way s.held) (same_key key s.key) e).0)) ∙ off)
