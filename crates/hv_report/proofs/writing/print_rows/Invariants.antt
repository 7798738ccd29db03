-- The rows before the index are printed, and their numbers are in range.
use Rattle.std.proofs.Common.{take}
use Rattle.std.specs.List.{All, flat_map}
use Rattle.hv_io.specs.Seen.{seen}
use Rattle.hv_io.specs.Printing.{Prints}
use Rattle.hv_model.specs.Report.{row_line}
use Rattle.hv_report.specs.Law.{RowInRange}
use Rattle.hv_report.proofs.writing.print_rows.Given as goal

abbrev pub invariant-loop-row : goal.invariant-loop-row
invariant-loop-row g l = record {
  printed : Prints (flat_map row_line (take l.row-index l.fn.rows))
      (seen g.K.Sink l.fn.out) l.fn.printer (seen g.K.Sink l.out) l.printer;
  in_range : All RowInRange (take l.row-index l.fn.rows);
}
