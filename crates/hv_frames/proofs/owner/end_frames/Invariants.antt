use Rattle.std.proofs.Common.{vec_len}
use Rattle.hv_frames.proofs.owner.end_frames.Given as goal

-- each turn ends a frame
abbrev pub decreases-loop-frame : goal.decreases-loop-frame
decreases-loop-frame l = vec_len l.frames
