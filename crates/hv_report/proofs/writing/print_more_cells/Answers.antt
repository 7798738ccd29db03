-- The cell at the index is the next part, and its number is in range; at the end these are all cells.
use Rattle.std.proofs.Common.{ap, sym, take_all, arith, ◌++◌}
use Rattle.std.specs.Prelude.{codes}
use Rattle.std.specs.List.{flat_map}
use Rattle.std.proofs.lemmas.List.Elements.{All-more, All-same}
use Rattle.hv_model.specs.Report.{cell_text}
use Rattle.hv_report.specs.Law.{CellInRange}
use Rattle.hv_report.proofs.PrintedParts.{item_next, printed_next, prints_two}
use Rattle.hv_report.proofs.writing.print_more_cells.Goals as goal

pub loop-cell-preserved : goal.loop-cell-preserved
loop-cell-preserved g c =
    let next = item_next c.args.cells.now c.loop-cell.cell-index c.cell-item.result c.loop-cell-test.true c.cell-item.is in
    let one = prints_two _ _ _ _ _ _ _ _ c.put.ensures.prints c.print_cell.ensures.prints in
    let here = rw c.cell-item.is at c.print_cell.ensures.in_range in
    record {
      printed = printed_next _ _ _ _ _ _ _ _ _ _ c.loop-cell.invariant.printed (ap (flat_map (λ cell. codes "|" ++ cell_text cell)) next) one;
      in_range = All-more CellInRange c.args.cells.now c.loop-cell.cell-index c.cell-item.result c.loop-cell-test.true c.loop-cell.invariant.in_range here;
    }

pub returns-clause-in_range : goal.returns-clause-in_range
returns-clause-in_range g c = All-same CellInRange c.args.cells.now _ (sym (take_all _ _ (omega arith))) c.loop-cell.invariant.in_range
