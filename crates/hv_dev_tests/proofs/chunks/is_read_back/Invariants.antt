-- The port has room for one read, and none is under way.
use Rattle.std.proofs.Common.{◌≡◌, ◌≤◌, []}
use Rattle.hv_dev_tests.proofs.chunks.is_read_back.Given as goal

abbrev pub invariant-loop-page : goal.invariant-loop-page
invariant-loop-page g l = record {
  room : 1 ≤ (g.P.PageSink.reading l.port).room;
  none : (g.P.PageSink.reading l.port).in_flight ≡ [];
}
