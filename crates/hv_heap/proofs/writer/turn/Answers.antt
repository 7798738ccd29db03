use Rattle.std.proofs.Common.{ap, ◌∙◌}
use Rattle.hv_heap.specs.Writer.{page_at}
use Rattle.hv_heap.proofs.Begun.{pushed_first}
use Rattle.hv_heap.proofs.writer.turn.Goals as goal

pub returns-clause-begun : goal.returns-clause-begun
returns-clause-begun c =
    pushed_first c.args.number (page_at 4082 c.as_mut_slice-2.result.now) (page_at 4082 c.begin_top.new.room) (page_at 4080 c.put.new.room) c.args.entry.now c.put.result
    (ap (page_at 4082) (c.as_mut_slice-2.ensures.value ∙ c.deref_mut-2.ensures.value)) c.begin_top.ensures c.requires.short c.put.ensures.pushed c.put.ensures.full
