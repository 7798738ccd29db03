-- what was known is known still, and places are left
use Rattle.std.proofs.Common.{◌-◌, length}
use Rattle.hv_world.specs.Selecting.{Keeps}
use Rattle.hv_world.proofs.select.settle.Given as goal

abbrev pub invariant-loop-alloc : goal.invariant-loop-alloc
invariant-loop-alloc g l = Keeps g.F.PageFile.tells g.F.PageFile.pages l.fn.job l.job

abbrev pub decreases-loop-alloc : goal.decreases-loop-alloc
decreases-loop-alloc g l = length l.job.query.places - length l.job.tables
