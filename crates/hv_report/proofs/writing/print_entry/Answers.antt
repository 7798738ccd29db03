-- The parts one after another.
use Rattle.std.proofs.Common.{append_assoc}
use Rattle.hv_report.proofs.writing.print_entry.Goals as goal

pub returns-clause-prints : goal.returns-clause-prints
returns-clause-prints g c = λ start text h.
    let parts = c.put-5.ensures.prints start _ (c.print_detail.ensures.prints start _ (c.put-4.ensures.prints start _ (c.print_number-2.ensures start _
    (c.put-3.ensures.prints start _ (c.put-2.ensures.prints start _ (c.put.ensures.prints start _ (c.print_number.ensures start text h))))))) in
    simp append_assoc (simp (c.as_slice.ensures, append_assoc) at parts)
