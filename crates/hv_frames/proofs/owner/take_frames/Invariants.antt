use Rattle.std.proofs.Common.{◌≡◌, ◌≤◌, vec_capacity}
use Rattle.hv_frames.specs.Frames.{fresh_frames}
use Rattle.hv_frames.proofs.owner.take_frames.Given as goal

-- those below `number` are taken, and the others have room
abbrev pub invariant-loop-number : goal.invariant-loop-number
invariant-loop-number l = record {
  has_room : l.count ≤ vec_capacity l.frames;
  taken : l.frames.items ≡ fresh_frames l.mark.ptr l.number;
}
