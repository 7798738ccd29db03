-- The script is as before, and each pick leaves fewer steps.
use Rattle.std.proofs.Common.{◌≡◌}
use Rattle.oodb.proofs.run.take_turns.Given as goal

abbrev pub invariant-loop-alloc : goal.invariant-loop-alloc
invariant-loop-alloc g l = record { script : l.world.script ≡ l.fn.world.script }

abbrev pub decreases-loop-alloc : goal.decreases-loop-alloc
decreases-loop-alloc g l = l.world.left
