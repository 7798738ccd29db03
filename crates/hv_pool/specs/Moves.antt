-- What each call on a pool changes. This project's own.
use Rattle.std.specs.Prelude.{◌≡◌, ℕ, ◌+◌, ◌-◌, ◌^◌, min, ◌≤◌, Bool, true, false, ◌&&◌, not, nat_eq, if◌then◌else◌, List, ◌∷◌, length, map, Some, None, All, IsPermutation}
use Rattle.std.specs.declared.option.Option.{Option}
use Rattle.hv_frames.specs.Frames.{Framed}
use Rattle.hv_pool.specs.declared.key.PageKey.{PageKey}
use Rattle.hv_pool.specs.declared.slot.Held.{Held}
use Rattle.hv_pool.specs.declared.slot.Held.TheVariants.{Free, Cached, Reading, InHand}
use Rattle.hv_pool.specs.declared.slot.Slot.{Slot}
use Rattle.hv_pool.specs.declared.slot.Arrival.{Arrival}
use Rattle.hv_pool.specs.declared.slot.Arrival.TheVariants as arrival
use Rattle.hv_pool.specs.declared.seen.Seen.{Seen}
use Rattle.hv_pool.specs.declared.seen.Seen.TheVariants as seen
use Rattle.hv_pool.specs.declared.seen.Ask.{Ask}
use Rattle.hv_pool.specs.declared.seen.Ask.TheVariants as ask
use Rattle.hv_pool.specs.Key.{same_key}
use Rattle.sha2.specs.Sha256.{sha256}
use Rattle.hv_pool.specs.Slots.{Pooled, is_open, is_reading, is_in_hand, IsAway, with_wait, without_wait}

-- one frame's place changed, and no other
pub record Moves (old new : Pooled) (before after : Slot) : Type 0 where
  pub rest : List Slot
  pub were : IsPermutation old.slots (before ∷ rest)
  pub are : IsPermutation new.slots (after ∷ rest)
  pub owner : new.owner ≡ old.owner

-- a place with the same number
abbrev pub moved : Slot → PageKey → Held → ℕ → ℕ → Bool → Option Framed → Slot
moved s key held came waits formed frame = record { number = s.number; key = key; held = held; came = came; waits = waits; formed = formed; frame = frame }

-- the frame of a slot in the hand of a session, whose wait ends; the note on the page's form stays
abbrev pub taken_by : ℕ → Slot → Slot
taken_by who s = moved s s.key (InHand who) s.came (without_wait who s.waits) s.formed None

-- a page is being read into the frame for a session, which waits for it; nothing is noted of its form
abbrev pub started_by : ℕ → PageKey → Slot → Slot
started_by who key s = moved s key (Reading who) 0 (with_wait who 0) false None

-- a page for which one more session waits
abbrev pub joined_by : ℕ → Slot → Slot
joined_by who s = moved s s.key s.held s.came (with_wait who s.waits) s.formed s.frame

-- a page that came back as the frame's, with the note whether it was found to have its form
abbrev pub cached_as : ℕ → Bool → Framed → Slot → Slot
cached_as came formed frame s = moved s s.key Cached came s.waits formed (Some frame)

-- nobody waits for the key that it stood under any more
abbrev pub freed : Framed → Slot → Slot
freed frame s = moved s s.key Free 0 0 false (Some frame)

-- the place of a frame that came back with a page: cached where it was away so for this key, else free
abbrev pub returned : (Held → Bool) → Bool → PageKey → Framed → ℕ → Slot → Slot
returned away formed key frame came s = if away s.held && same_key key s.key then cached_as came formed frame s else freed frame s

-- a page for which a session waits no more
abbrev pub forgotten : ℕ → Slot → Slot
forgotten who s = moved s s.key s.held s.came (without_wait who s.waits) s.formed s.frame

-- the page is here, and its frame goes into the session's hand, with the bytes with which it was cached and what was noted of its form
pub record Hits (old : Pooled) (key : PageKey) (who : ℕ) (frame : Framed) (formed : Bool) (new : Pooled) : Type 0 where
  pub slot : Slot
  pub is : slot.held ≡ Cached
  pub named : slot.key ≡ key
  pub frame_is : slot.frame ≡ Some frame
  pub noted : formed ≡ slot.formed
  pub digest : sha256 frame.bytes ≡ key.digest
  pub away : IsAway new frame
  pub change : Moves old new slot (taken_by who slot)
  pub came : new.came ≡ old.came

-- the frame that may be taken and came back longest ago is taken, for the page to be read into it
pub record Starts (old : Pooled) (key : PageKey) (who : ℕ) (frame : Framed) (new : Pooled) : Type 0 where
  pub slot : Slot
  pub is : is_open slot ≡ true
  pub least : All (λ s. is_open s ≡ true → slot.came ≤ s.came) old.slots
  pub frame_is : slot.frame ≡ Some frame
  pub away : IsAway new frame
  pub change : Moves old new slot (started_by who key slot)
  pub came : new.came ≡ old.came

-- the page is being read for another session, and the asker waits for it too
pub record Joins (old : Pooled) (key : PageKey) (who other : ℕ) (new : Pooled) : Type 0 where
  pub slot : Slot
  pub is : slot.held ≡ Reading other
  pub named : slot.key ≡ key
  pub change : Moves old new slot (joined_by who slot)
  pub came : new.came ≡ old.came

-- the page is in a session's hand, and nothing changes
pub record IsBusy (old : Pooled) (key : PageKey) (other : ℕ) (new : Pooled) : Type 0 where
  pub same : new ≡ old
  pub slot : Slot
  pub rest : List Slot
  pub among : IsPermutation old.slots (slot ∷ rest)
  pub is : slot.held ≡ InHand other
  pub named : slot.key ≡ key

-- what an ask answers and leaves
abbrev pub Asks : Pooled → PageKey → ℕ → Ask → Pooled → Type 0
Asks old key who (ask.Hit frame formed) new = Hits old key who frame formed new
Asks old key who (ask.Start frame) new = Starts old key who frame new
Asks old key who (ask.Reading other) new = Joins old key who other new
Asks old key who (ask.Busy other) new = IsBusy old key other new
Asks old key who (ask.Full frames) new = (new ≡ old) × (frames ≡ length old.slots)

-- whether it gives a page that is here
abbrev pub is_hit : Ask → Bool
is_hit (ask.Hit frame formed) = true
is_hit (ask.Start frame) = false
is_hit (ask.Reading other) = false
is_hit (ask.Busy other) = false
is_hit (ask.Full frames) = false

-- which answer it is
abbrev pub answer_of : Ask → Seen
answer_of (ask.Hit frame formed) = seen.Hit
answer_of (ask.Start frame) = seen.Start
answer_of (ask.Reading other) = seen.Reading
answer_of (ask.Busy other) = seen.Busy
answer_of (ask.Full frames) = seen.Full

-- a frame with a page came back to the place with its number: it is cached with this note on its form where it was away so for this key, else it is free
pub record ComesBack (away : Held → Bool) (formed : Bool) (old : Pooled) (key : PageKey) (frame : Framed) (new : Pooled) : Type 0 where
  pub slot : Slot
  pub number : slot.number ≡ frame.number
  pub change : Moves old new slot (returned away formed key frame old.came slot)
  pub came : new.came ≡ min (old.came + 1) (2 ^ 64 - 1)

-- a frame came back without its page
pub record IsLost (old : Pooled) (frame : Framed) (new : Pooled) : Type 0 where
  pub slot : Slot
  pub number : slot.number ≡ frame.number
  pub change : Moves old new slot (freed frame slot)
  pub came : new.came ≡ old.came

-- whether a frame that is away so comes back with a page
abbrev pub brings : Arrival → Held → Bool
brings arrival.Landed held = is_reading held
brings (arrival.Back formed) held = is_in_hand held
brings arrival.Lost held = false

-- whether a page that comes back so was found to have its form
abbrev pub notes : Arrival → Bool
notes arrival.Landed = false
notes (arrival.Back formed) = formed
notes arrival.Lost = false

-- the count of pages that came back, after a frame did
abbrev pub came_after : Arrival → ℕ → ℕ
came_after arrival.Landed came = min (came + 1) (2 ^ 64 - 1)
came_after (arrival.Back formed) came = min (came + 1) (2 ^ 64 - 1)
came_after arrival.Lost came = came

-- a frame came back
abbrev pub Arrives : Arrival → Pooled → PageKey → Framed → Pooled → Type 0
Arrives arrival.Landed old key frame new = ComesBack is_reading false old key frame new
Arrives (arrival.Back formed) old key frame new = ComesBack is_in_hand formed old key frame new
Arrives arrival.Lost old key frame new = IsLost old frame new

-- a page for which sessions wait comes back in this frame, and is that of the key
abbrev pub brings_owed : Arrival → PageKey → Framed → PageKey → Slot → Bool
brings_owed way key frame k s = nat_eq s.number frame.number && ((brings way s.held && same_key key s.key) && (not (nat_eq s.waits 0) && same_key k s.key))

-- all waits of a session ended
pub record Forgets (old : Pooled) (who : ℕ) (new : Pooled) : Type 0 where
  pub slots : new.slots ≡ map (forgotten who) old.slots
  pub owner : new.owner ≡ old.owner
  pub came : new.came ≡ old.came

-- what a place that stands under a key answers, and how it is left
abbrev pub Takes : Slot → ℕ → Ask → Slot → Type 0
Takes old who (ask.Hit frame formed) new = (old.held ≡ Cached) × (old.frame ≡ Some frame) × (new ≡ taken_by who old) × (formed ≡ old.formed)
Takes old who (ask.Start frame) new = ⊥
Takes old who (ask.Reading other) new = (old.held ≡ Reading other) × (new ≡ joined_by who old)
Takes old who (ask.Busy other) new = (old.held ≡ InHand other) × (new ≡ old)
Takes old who (ask.Full frames) new = ⊥
