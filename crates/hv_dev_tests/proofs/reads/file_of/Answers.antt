-- Each write puts one page more.
use Rattle.std.proofs.Common.{[], refl, ◌∙◌}
use Rattle.hv_dev_tests.proofs.Ports.{HasPages-more}
use Rattle.hv_dev_tests.proofs.reads.file_of.Goals as goal

pub loop-fill-init : goal.loop-fill-init
loop-fill-init g c = record { pages = record { pages = []; are = c.requires; long = refl }; kept = refl }

pub loop-fill-preserved : goal.loop-fill-preserved
loop-fill-preserved g c = record {
  pages = HasPages-more _ _ _ _ c.loop-fill.invariant.pages (rw c.expect.ensures at c.write.ensures.more);
  kept = c.write.ensures.kept ∙ c.loop-fill.invariant.kept;
}
