-- What is left to print are the cells from the index on; the numbers of those before it are in range.
use Rattle.std.proofs.Common.{drop, take, ◌++◌}
use Rattle.std.specs.Prelude.{codes}
use Rattle.std.specs.List.{All, flat_map}
use Rattle.hv_io.specs.Seen.{seen}
use Rattle.hv_model.specs.Report.{cell_text}
use Rattle.hv_report.specs.Law.{CellInRange}
use Rattle.hv_report.proofs.PrintedParts.{PrintsBut}
use Rattle.hv_report.proofs.writing.print_more_cells.Given as goal

abbrev pub invariant-loop-cell : goal.invariant-loop-cell
invariant-loop-cell g l = record {
  printed : PrintsBut (flat_map (λ cell. codes "|" ++ cell_text cell) l.fn.cells)
      (flat_map (λ cell. codes "|" ++ cell_text cell) (drop l.cell-index l.fn.cells))
      (seen g.K.Sink l.fn.out) l.fn.printer (seen g.K.Sink l.out) l.printer;
  in_range : All CellInRange (take l.cell-index l.fn.cells);
}
