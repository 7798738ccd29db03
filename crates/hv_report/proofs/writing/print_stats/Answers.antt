-- The parts one after another.
use Rattle.std.proofs.Common.{append_assoc}
use Rattle.hv_report.proofs.writing.print_stats.Goals as goal

pub returns-clause-prints : goal.returns-clause-prints
returns-clause-prints g c = λ start text h.
    let submits = c.print_numbered-3.ensures start _ (c.print_numbered-2.ensures start _ (c.print_numbered.ensures start text h)) in
    let parts = c.put.ensures.prints start _ submits in
    simp append_assoc (simp append_assoc at parts)
