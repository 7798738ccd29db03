-- each pick leaves fewer steps
use Rattle.hv_world_tests.proofs.walked.walked.Given as goal

abbrev pub invariant-loop-alloc : goal.invariant-loop-alloc
invariant-loop-alloc g l = Unit {0}

abbrev pub decreases-loop-alloc : goal.decreases-loop-alloc
decreases-loop-alloc g l = l.world.left
