-- The word of the variant, and its number.
use Rattle.hv_report.proofs.writing.print_refusal.Goals as goal

pub returns-in-TooManyChunks-clause-prints : goal.returns-in-TooManyChunks-clause-prints
returns-in-TooManyChunks-clause-prints g c = rw c.in-TooManyChunks.is c.put-in-TooManyChunks.ensures.prints

pub returns-in-NotGrouped-clause-prints : goal.returns-in-NotGrouped-clause-prints
returns-in-NotGrouped-clause-prints g c = rw c.in-NotGrouped.is c.print_numbered-in-NotGrouped.ensures
