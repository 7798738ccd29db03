-- The open file has a page for each byte so far.
use Rattle.std.proofs.Common.{◌≡◌}
use Rattle.hv_dev_tests.proofs.Ports.{HasPages}
use Rattle.hv_dev_tests.proofs.reads.file_of.Given as goal

abbrev pub invariant-loop-fill : goal.invariant-loop-fill
invariant-loop-fill g l = record {
  pages : HasPages (g.P.PageSink.written l.port) l.fill-index;
  kept : g.P.PageSink.reading l.port ≡ g.P.PageSink.reading l.fn.port;
}
