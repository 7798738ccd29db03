use Rattle.std.proofs.Common.{◌+◌, ◌≤◌, ◌++◌, vec_len, vec_capacity, IsPermutation}
use Rattle.std.specs.Prelude.{All, IsSome}
use Rattle.hv_pool.specs.Made.{here}
use Rattle.hv_pool.proofs.pool.frames_of.Given as goal

-- the frames here stand in the list or in the places that are left
abbrev pub invariant-loop-slot : goal.invariant-loop-slot
invariant-loop-slot l = record {
  home : All (λ s. IsSome s.frame) l.slots.items;
  wide : vec_len l.slots + vec_len l.room ≤ vec_capacity l.room;
  frames : IsPermutation (here l.fn.slots.items) (l.room.items ++ here l.slots.items);
}

abbrev pub decreases-loop-slot : goal.decreases-loop-slot
decreases-loop-slot l = vec_len l.slots
