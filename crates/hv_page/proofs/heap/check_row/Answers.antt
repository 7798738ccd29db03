use Rattle.hv_page.proofs.Rows.{row_fault_within}
use Rattle.hv_page.proofs.heap.check_row.Goals as goal

pub returns-clause-within : goal.returns-clause-within
returns-clause-within c = row_fault_within c.args.schema.now c.args.row.now c.check.result c.check.ensures.fault
