-- What is true of a pool's places.
use Rattle.std.specs.Prelude.{◌≡◌, ℕ, ◌<◌, ◌≤◌, ◌^◌, List, [], length, map}
use Rattle.std.specs.List.{count_by, range_with_len}
use Rattle.hv_pool.specs.declared.slot.Slot.{Slot}
use Rattle.hv_pool.specs.Slots.{IsPool, is_open}
use Rattle.hv_frames.specs.Frames.{Framed}
use denote.RawPtr.{Ptr}

-- the places stand by number, and the open ones are counted
pub record IsInOrder (owner : Ptr) (slots : List Slot) (came openings : ℕ) : Type 0 where
  pub pool : IsPool (record { owner = owner; slots = slots; came = came })
  pub placed : map (λ s. s.number) slots ≡ range_with_len 0 (length slots)
  pub counted : openings ≡ count_by is_open slots
  pub short : length slots < 2 ^ 32

-- an empty list that has room for a frame of each place
pub record HasRoom (slots : List Slot) (frames : List Framed) (capacity : ℕ) : Type 0 where
  pub none : frames ≡ []
  pub wide : length slots ≤ capacity
