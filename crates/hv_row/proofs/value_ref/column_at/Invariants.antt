-- the values of the columns so far are behind `at`
use Rattle.hv_row.proofs.Spelled.{IsBehind}
use Rattle.hv_row.proofs.value_ref.column_at.Given as goal

abbrev pub invariant-loop-before : goal.invariant-loop-before
invariant-loop-before l = IsBehind l.columns l.bytes l.before-index l.at
