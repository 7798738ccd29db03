-- What was put to a blank printer is the report.
use Rattle.hv_report.proofs.writing.write_report.Goals as goal

pub returns-clause-all : goal.returns-clause-all
returns-clause-all g c = c.finish.ensures.whole _ _ _ c.print_report.ensures.prints c.new-printer.ensures

pub returns-clause-part : goal.returns-clause-part
returns-clause-part g c = c.finish.ensures.cut _ _ _ c.print_report.ensures.prints c.new-printer.ensures
