-- The texts so far begin the bytes, and the rest is what is left.
use Rattle.std.proofs.Common.{◌≤◌, length}
use Rattle.hv_script.specs.SoFar.{HasRead, placed_of, IsKept}
use Rattle.hv_script.proofs.script.read_statements.Given as goal

abbrev pub invariant-loop-so_far : goal.invariant-loop-so_far
invariant-loop-so_far l = record {
  read : HasRead l.bytes l.rest (placed_of l.so_far);
  kept : IsKept l.so_far;
  room : length l.rest ≤ length l.bytes;
}

abbrev pub decreases-loop-so_far : goal.decreases-loop-so_far
decreases-loop-so_far l = length l.rest
