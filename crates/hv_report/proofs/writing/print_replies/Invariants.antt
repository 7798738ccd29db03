-- What is left to print are those from the index on; the numbers of those before it are in range.
use Rattle.hv_io.specs.Seen.{seen}
use Rattle.hv_model.specs.Report.{replies_text}
use Rattle.hv_report.specs.Law.{ReplyInRange}
use Rattle.hv_report.proofs.PrintedParts.{ItemsPrinted}
use Rattle.hv_report.proofs.writing.print_replies.Given as goal

abbrev pub invariant-loop-i : goal.invariant-loop-i
invariant-loop-i g l = ItemsPrinted replies_text ReplyInRange l.fn.replies l.i (seen g.K.Sink l.fn.out) l.fn.printer (seen g.K.Sink l.out) l.printer
