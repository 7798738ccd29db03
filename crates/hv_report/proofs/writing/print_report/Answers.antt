-- The parts one after another.
use Rattle.hv_report.proofs.PrintedParts.{prints_two}
use Rattle.hv_report.proofs.writing.print_report.Goals as goal

pub returns-in-Some-clause-prints : goal.returns-in-Some-clause-prints
returns-in-Some-clause-prints g c =
    let sessions = rw c.as_slice.ensures at c.print_sessions.ensures.prints in
    let history = rw c.as_slice-2.ensures at c.print_history.ensures.prints in
    rw c.in-Some.is (prints_two _ _ _ _ _ _ _ _ (prints_two _ _ _ _ _ _ _ _ sessions history) c.print_stats.ensures.prints)
