-- What is left to print is the rest, which is no longer than the text.
use Rattle.std.proofs.Common.{length, ◌≤◌}
use Rattle.std.specs.List.{flat_map}
use Rattle.hv_io.specs.Seen.{seen}
use Rattle.hv_model.specs.Report.{quoted_byte}
use Rattle.hv_report.proofs.PrintedParts.{PrintsBut}
use Rattle.hv_report.proofs.writing.print_quoted.Given as goal

abbrev pub invariant-loop-at : goal.invariant-loop-at
invariant-loop-at g l = record {
  within : length l.rest ≤ length l.fn.text;
  printed : PrintsBut (flat_map quoted_byte l.fn.text) (flat_map quoted_byte l.rest)
      (seen g.K.Sink l.fn.out) l.fn.printer (seen g.K.Sink l.out) l.printer;
}

abbrev pub decreases-loop-at : goal.decreases-loop-at
decreases-loop-at g l = length l.rest
