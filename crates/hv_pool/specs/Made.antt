-- What a pool is made of, and what it ends as. This project's own.
use Rattle.std.specs.Prelude.{◌≡◌, ℕ, ◌<◌, ◌^◌, false, List, [], ◌∷◌, map, length, replicate, None, option_to_list, All, IfSome, IsPermutation}
use Rattle.std.specs.List.{range_with_len, flat_map}
use Rattle.hv_frames.specs.Frames.{Framed, Owned, AreAll}
use Rattle.hv_pool.specs.declared.slot.Held.TheVariants.{Free}
use Rattle.hv_pool.specs.declared.slot.Slot.{Slot}
use Rattle.hv_pool.specs.Slots.{Pooled}
use denote.RawPtr.{Ptr, null_ptr}

-- these are all frames of one owner, each once
pub record AreOfOne (frames : List Framed) : Type 0 where
  pub owned : Owned
  pub count : owned.count < 2 ^ 32
  pub all : AreAll owned frames

-- the owner of frames that have one owner
abbrev pub owner_of : List Framed → Ptr
owner_of [] = null_ptr
owner_of (f ∷ fs) = f.owner

-- a place without a frame
abbrev pub empty_slot : ℕ → Slot
empty_slot n = record { number = n; key = record { chunk = 0; page = 0; digest = replicate 32 0 }; held = Free; came = 0; waits = 0; formed = false; frame = None }

-- the frames that are not away
abbrev pub here : List Slot → List Framed
here slots = flat_map (λ s. option_to_list s.frame) slots

-- a place that has no page, where nobody waits and nothing is noted, with the frame of its number if it has one
pub record IsFresh (s : Slot) : Type 0 where
  pub held : s.held ≡ Free
  pub came : s.came ≡ 0
  pub waits : s.waits ≡ 0
  pub formed : s.formed ≡ false
  pub frame : IfSome s.frame (λ f. f.number ≡ s.number)

-- each frame stands in the place of its number, and none has a page
pub record IsFilled (frames : List Framed) (slots : List Slot) : Type 0 where
  pub numbers : map (λ s. s.number) slots ≡ range_with_len 0 (length frames)
  pub fresh : All IsFresh slots
  pub among : IsPermutation frames (here slots)

-- the pool of these frames before any page came
pub record IsMade (frames : List Framed) (p : Pooled) : Type 0 where
  pub owner : p.owner ≡ owner_of frames
  pub filled : IsFilled frames p.slots
  pub came : p.came ≡ 1
