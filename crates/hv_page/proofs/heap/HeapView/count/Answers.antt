use Rattle.std.proofs.Common.{length, sym, ap, ◌∙◌}
use Rattle.hv_page.specs.Fault.{count_of}
use Rattle.hv_page.proofs.Reading.{entries_left_length}
use Rattle.hv_page.proofs.heap.HeapView.count.Goals as goal

pub returns : goal.returns
returns c =
    sym c.self.invariant.counted ∙ sym (entries_left_length c.self.inside.page.now 0 (count_of c.self.inside.page.now)) ∙ ap length c.self.view_is
