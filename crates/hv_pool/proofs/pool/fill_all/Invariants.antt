use Rattle.std.proofs.Common.{◌≡◌, vec_len, vec_capacity}
use Rattle.hv_pool.proofs.Made.{Filling}
use Rattle.hv_pool.proofs.pool.fill_all.Given as goal

-- each frame stands in its place or in the list that is left
abbrev pub invariant-loop-frame : goal.invariant-loop-frame
invariant-loop-frame l = record {
  filling : Filling l.fn.frames.items l.frames.items l.slots;
  room : vec_capacity l.frames ≡ vec_capacity l.fn.frames;
}

abbrev pub decreases-loop-frame : goal.decreases-loop-frame
decreases-loop-frame l = vec_len l.frames
