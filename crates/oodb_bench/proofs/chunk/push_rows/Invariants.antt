use Rattle.std.proofs.Common.{◌≡◌, ◌≤◌, length, Some}
use Rattle.oodb_bench.proofs.chunk.push_rows.Given as goal

-- the builder has as many rows as turns are done, and its pages are the sink's
abbrev pub invariant-loop-number : goal.invariant-loop-number
invariant-loop-number g l = record {
  schema : l.builder.schema ≡ l.schema;
  few : l.rows ≤ 1000000;
  counted : length l.builder.rows ≡ l.number;
  mine : g.P.PageSink.written l.port ≡ Some l.builder.pages;
}
