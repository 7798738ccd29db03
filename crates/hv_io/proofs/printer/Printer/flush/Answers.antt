-- What was held back is handed over by `put`.
use Rattle.hv_io.proofs.Buffering.{flush_prints}
use Rattle.hv_io.proofs.printer.Printer.flush.Goals as goal

pub returns-clause-prints : goal.returns-clause-prints
returns-clause-prints g c = λ start text h.
    let held = rw (← c.self.view_is) at h in
    let ok = rw (← c.self.view_is) at c.requires in
    flush_prints start text _ _ _ _ _ ok c.put-self-inside.ensures.all c.put-self-inside.ensures.part held
