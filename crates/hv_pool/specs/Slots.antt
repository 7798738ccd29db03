-- Where the frames of a pool are. This project's own.
use Rattle.std.specs.Prelude.{◌≡◌, ⊤, ℕ, ◌*◌, ◌^◌, ◌%◌, ◌<◌, ◌≤◌, Bool, true, false, ◌&&◌, ◌||◌, not, nat_eq, nat_lt, if◌then◌else◌, List, length, Some, None, All, bit_and, bit_or, IfSome}
use Rattle.std.specs.Int.{w64}
use Rattle.std.specs.List.{count_by}
use Rattle.std.specs.Int.{bit_at, bit_not}
use Rattle.sha2.specs.Sha256.{sha256}
use Rattle.hv_frames.specs.Frames.{Framed}
use Rattle.hv_pool.specs.declared.key.PageKey.{PageKey}
use Rattle.hv_pool.specs.declared.slot.Held.{Held}
use Rattle.hv_pool.specs.declared.slot.Held.TheVariants.{Free, Cached, Reading, InHand}
use Rattle.hv_pool.specs.declared.slot.Slot.{Slot}
use Rattle.hv_pool.specs.declared.seen.Seen.{Seen}
use Rattle.hv_pool.specs.declared.seen.Seen.TheVariants as seen
use Rattle.hv_pool.specs.Key.{same_key}
use denote.RawPtr.{Ptr}

-- a pool: whose frames it has, where each is, and how many pages came back
pub record Pooled : Type 0 where
  pub owner : Ptr
  pub slots : List Slot
  pub came : ℕ

abbrev pub is_free : Held → Bool
is_free Free = true
is_free Cached = false
is_free (Reading who) = false
is_free (InHand who) = false

abbrev pub is_cached : Held → Bool
is_cached Free = false
is_cached Cached = true
is_cached (Reading who) = false
is_cached (InHand who) = false

abbrev pub is_reading : Held → Bool
is_reading Free = false
is_reading Cached = false
is_reading (Reading who) = true
is_reading (InHand who) = false

abbrev pub is_in_hand : Held → Bool
is_in_hand Free = false
is_in_hand Cached = false
is_in_hand (Reading who) = false
is_in_hand (InHand who) = true

abbrev pub is_reading_for : ℕ → Held → Bool
is_reading_for who Free = false
is_reading_for who Cached = false
is_reading_for who (Reading other) = nat_eq other who
is_reading_for who (InHand other) = false

abbrev pub is_in_hand_of : ℕ → Held → Bool
is_in_hand_of who Free = false
is_in_hand_of who Cached = false
is_in_hand_of who (Reading other) = false
is_in_hand_of who (InHand other) = nat_eq other who

abbrev pub stands : Held → Bool
stands Free = false
stands Cached = true
stands (Reading who) = true
stands (InHand who) = true

-- the frame that stands under the key
abbrev pub under : PageKey → Slot → Bool
under key s = stands s.held && same_key key s.key

abbrev pub cached_at : PageKey → Slot → Bool
cached_at key s = is_cached s.held && same_key key s.key

abbrev pub reading_at : PageKey → Slot → Bool
reading_at key s = is_reading s.held && same_key key s.key

abbrev pub in_hand_at : PageKey → Slot → Bool
in_hand_at key s = is_in_hand s.held && same_key key s.key

-- a frame that may be taken: it is free, or has a page for which nobody waits
abbrev pub is_open : Slot → Bool
is_open s = is_free s.held || (is_cached s.held && nat_eq s.waits 0)

-- the session waits for the page of this frame
abbrev pub waits_bit : ℕ → ℕ → Bool
waits_bit who waits = nat_eq (bit_at waits who) 1

abbrev pub with_wait : ℕ → ℕ → ℕ
with_wait who waits = bit_or waits (1 * 2 ^ who % 2 ^ 64)

abbrev pub without_wait : ℕ → ℕ → ℕ
without_wait who waits = bit_and waits (bit_not w64 (1 * 2 ^ who % 2 ^ 64))

abbrev pub waits_at : ℕ → PageKey → Slot → Bool
waits_at who key s = under key s && waits_bit who s.waits

abbrev pub is_numbered : ℕ → Slot → Bool
is_numbered n s = nat_eq s.number n

-- what an ask for the page would answer
abbrev pub seen_at : Pooled → PageKey → Seen
seen_at p key =
    if nat_lt 0 (count_by (cached_at key) p.slots) then seen.Hit
    else if nat_lt 0 (count_by (in_hand_at key) p.slots) then seen.Busy
    else if nat_lt 0 (count_by (reading_at key) p.slots) then seen.Reading
    else if nat_lt 0 (count_by is_open p.slots) then seen.Start else seen.Full

-- who has a frame that is away is a session, numbered below 64
abbrev pub IsWithSession : Held → Type 0
IsWithSession Free = ⊤
IsWithSession Cached = ⊤
IsWithSession (Reading who) = who < 64
IsWithSession (InHand who) = who < 64

-- a free frame, or one with a page, is here, and the page has the digest of its key; the sessions are numbered below 64, and those that wait are a bit each; only a page is noted to have its form
pub record Holds (owner : Ptr) (s : Slot) : Type 0 where
  pub here : (is_free s.held || is_cached s.held) ≡ true → (f : Framed) × (s.frame ≡ Some f) × (f.owner ≡ owner) × (f.number ≡ s.number)
  pub away : (is_free s.held || is_cached s.held) ≡ false → s.frame ≡ None
  pub true_page : is_cached s.held ≡ true → IfSome s.frame (λ f. sha256 f.bytes ≡ s.key.digest)
  pub nobody : is_free s.held ≡ true → s.waits ≡ 0
  pub session : IsWithSession s.held
  pub narrow : s.waits < 2 ^ 64
  pub noted : s.formed ≡ true → (is_cached s.held || is_in_hand s.held) ≡ true

-- each frame number below their count stands once, and no two frames stand under one key
pub record IsPool (p : Pooled) : Type 0 where
  pub numbers : (n : ℕ) → count_by (is_numbered n) p.slots ≤ 1
  pub every : (n : ℕ) → n < length p.slots → 0 < count_by (is_numbered n) p.slots
  pub keys : (key : PageKey) → count_by (under key) p.slots ≤ 1
  pub holds : All (Holds p.owner) p.slots

-- a page that may not give up its frame, since a session waits for it
abbrev pub is_owed : Slot → Bool
is_owed s = is_cached s.held && not (nat_eq s.waits 0)

-- the page of the key is such a page
abbrev pub owed_at : PageKey → Slot → Bool
owed_at key s = is_owed s && same_key key s.key

-- its frame is away: a page is read into it, or it is in a hand
abbrev pub is_gone : Slot → Bool
is_gone s = is_reading s.held || is_in_hand s.held

-- the session has its frame: its page is read for the session, or is in the session's hand
abbrev pub is_held_by : ℕ → Slot → Bool
is_held_by who s = is_reading_for who s.held || is_in_hand_of who s.held

-- the frame with this number is away
abbrev pub is_away : ℕ → Slot → Bool
is_away n s = nat_eq s.number n && (is_reading s.held || is_in_hand s.held)

-- the frame is one of the pool's and is away
pub record IsAway (p : Pooled) (frame : Framed) : Type 0 where
  pub owner : frame.owner ≡ p.owner
  pub away : 0 < count_by (is_away frame.number) p.slots
