-- the bytes so far and those of the values that are left are the row's
use Rattle.std.proofs.Common.{◌≡◌, ◌++◌, length, take, drop}
use Rattle.hv_row.specs.Row.{RowFits, row_bytes}
use Rattle.hv_row.proofs.spelling.encode_onto.Given as goal

abbrev pub invariant-loop-value : goal.invariant-loop-value
invariant-loop-value l = record {
  fits : RowFits (drop l.value-index l.schema) (drop l.value-index l.row);
  spelt : l.out.items ++ row_bytes (drop l.value-index l.schema) (drop l.value-index l.row) ≡ l.initial.out.items ++ row_bytes l.schema l.row;
  kept : take l.start l.out.items ≡ l.initial.out.items;
  start : l.start ≡ length l.initial.out.items;
}
