-- What was put to a blank printer is what was printed.
use Rattle.hv_io.proofs.Buffering.{printed_whole}
use Rattle.hv_io.proofs.printer.Printer.finish.Goals as goal

pub returns-clause-whole : goal.returns-clause-whole
returns-clause-whole g c = λ start old text p is. c.end.ensures.all start text (printed_whole start old text _ _ p is)

pub returns-clause-cut : goal.returns-clause-cut
returns-clause-cut g c = λ start old text p is. c.end.ensures.part start text (printed_whole start old text _ _ p is)
