use Rattle.std.proofs.Common.{◌≡◌, ◌+◌}
use Rattle.hv_page_tests.proofs.heap.add_ones.Given as goal

abbrev pub invariant-loop-at : goal.invariant-loop-at
invariant-loop-at l = record {
  same : l.writer.schema ≡ l.schema;
  added : l.writer.added ≡ l.initial.writer.added + l._at;
}
