-- The one at the index is the next part, and its numbers are in range.
use Rattle.std.proofs.Common.{arith}
use Rattle.hv_report.proofs.PrintedParts.{none_printed, item_printed, items_printed, items_ranged}
use Rattle.hv_report.proofs.Histories.{entries_many}
use Rattle.hv_report.proofs.writing.print_entries.Goals as goal

pub loop-i-init : goal.loop-i-init
loop-i-init g c = none_printed _ _ _ _ _

pub loop-i-preserved : goal.loop-i-preserved
loop-i-preserved g c =
    item_printed _ _ _ _ _ c.index-history-i.result _ _ _ _ _ _ entries_many c.loop-i-test.true c.index-history-i.is c.loop-i.invariant c.print_entry.ensures.prints c.print_entry.ensures.in_range

pub returns-clause-prints : goal.returns-clause-prints
returns-clause-prints g c = items_printed _ _ _ _ _ _ _ _ _ entries_many (omega arith) c.loop-i.invariant

pub returns-clause-in_range : goal.returns-clause-in_range
returns-clause-in_range g c = items_ranged _ _ _ _ _ _ _ _ (omega arith) c.loop-i.invariant
