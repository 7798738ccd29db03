-- the bytes so far and those of the values that are left are the row's
use Rattle.std.proofs.Common.{◌≡◌, ◌+◌, ◌*◌, ◌≤◌, length, drop}
use Rattle.hv_row.specs.Row.{RowFits, row_bytes}
use Rattle.hv_row.proofs.row.row_length.Given as goal

abbrev pub invariant-loop-at : goal.invariant-loop-at
invariant-loop-at l = record {
  same : length l.row ≡ length l.schema;
  fits : RowFits (drop l.at l.schema) (drop l.at l.row);
  total : l.total + length (row_bytes (drop l.at l.schema) (drop l.at l.row)) ≡ length (row_bytes l.schema l.row);
  small : l.total ≤ 256 * l.at;
}
