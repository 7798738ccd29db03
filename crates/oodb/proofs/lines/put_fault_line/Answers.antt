-- What was put to a blank printer is the line.
use Rattle.oodb.proofs.lines.put_fault_line.Goals as goal

pub returns : goal.returns
returns g c = record { all = c.finish.ensures.whole _ _ _ c.print_fault.ensures c.new-printer.ensures; part = c.finish.ensures.cut _ _ _ c.print_fault.ensures c.new-printer.ensures }
