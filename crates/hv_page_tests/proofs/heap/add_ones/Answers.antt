use Rattle.std.proofs.Common.{◌∙◌, arith}
use Rattle.hv_heap.proofs.Placing.{placed_counts, placed_schema}
use Rattle.hv_page_tests.proofs.heap.add_ones.Goals as goal

pub loop-at-preserved : goal.loop-at-preserved
loop-at-preserved c =
    let placed = c.in_ok-add.ensures.placed in
    record {
      same = placed_schema _ _ placed ∙ c.loop-at.invariant.same;
      added = omega (arith, placed_counts _ _ placed);
    }
