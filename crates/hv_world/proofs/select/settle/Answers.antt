-- each place that is ended keeps what was known
use Rattle.hv_world.proofs.Selecting.{keeps_both}
use Rattle.hv_world.proofs.select.settle.Goals as goal

pub returns-then-branch-clause-keeps : goal.returns-then-branch-clause-keeps
returns-then-branch-clause-keeps g c = keeps_both g.F.PageFile.tells g.F.PageFile.pages c.args.job.now c.loop-alloc.job c.advance.new.job c.loop-alloc.invariant c.in_ok-advance.ensures.keeps

pub loop-alloc-preserved : goal.loop-alloc-preserved
loop-alloc-preserved g c = keeps_both g.F.PageFile.tells g.F.PageFile.pages c.args.job.now c.loop-alloc.job c.advance.new.job c.loop-alloc.invariant c.in_ok-advance.ensures.keeps
