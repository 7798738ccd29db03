-- the rows so far are those of the records before this one, and the reader has the others
use Rattle.std.proofs.Common.{◌≡◌, ◌+◌, length}
use Rattle.hv_import.specs.Rows.{AreShort}
use Rattle.hv_import.proofs.Records.{IsReading}
use Rattle.hv_import.proofs.rows.rows_of.Given as goal

abbrev pub invariant-loop-number : goal.invariant-loop-number
invariant-loop-number l = record {
  reading : IsReading l.schema l.text l.rows.rows l.number l.reader;
  schema : l.rows.schema ≡ l.schema;
  short : AreShort l.schema l.rows.rows;
  counted : length l.rows.rows + 1 ≡ l.number;
}
