-- no fault stands before `at`, so what is left tells of the row
use Rattle.std.proofs.Common.{◌≡◌, ◌≤◌, length, drop}
use Rattle.hv_row.specs.Spelling.{fault_from, row_fault}
use Rattle.hv_row.proofs.spelling.check.Given as goal

abbrev pub invariant-loop-column : goal.invariant-loop-column
invariant-loop-column l = record {
  within : l.at ≤ length l.bytes;
  fault : fault_from l.at (drop l.column-index l.schema) (drop l.at l.bytes) ≡ row_fault l.schema l.bytes;
}
