-- The builder has so many rows, and the open file's pages are its own.
use Rattle.std.proofs.Common.{◌≡◌, Some, length}
use Rattle.hv_catalogue_tests.proofs.asked.chunk_of.Given as goal

abbrev pub invariant-loop-number : goal.invariant-loop-number
invariant-loop-number g l = record {
  schema : l.builder.schema ≡ l.schema;
  rows : length l.builder.rows ≡ l.number;
  mine : g.P.PageSink.written l.port ≡ Some l.builder.pages;
}
