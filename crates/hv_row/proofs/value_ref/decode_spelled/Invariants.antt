-- the values of the columns so far are read, and behind `at`
use Rattle.hv_row.proofs.Spelled.{IsReadAt}
use Rattle.hv_row.proofs.value_ref.decode_spelled.Given as goal

abbrev pub invariant-loop-column : goal.invariant-loop-column
invariant-loop-column l = IsReadAt l.schema l.bytes l.column-index l.at l.row
