-- All frames are in hand or under way.
use Rattle.std.proofs.Common.{◌≡◌, ◌≤◌, ◌+◌, length, vec_len, vec_capacity}
use Rattle.hv_dev.proofs.AllOut.{AllNamed, names}
use Rattle.hv_dev_tests.proofs.Ports.{AreBelow}
use Rattle.hv_dev_tests.proofs.reads.read_run.Given as goal

abbrev pub invariant-submits : goal.invariant-submits
invariant-submits g l = record {
  in_hand : vec_len l.frames + l.at ≡ l.count;
  under_way : length (g.P.PageSink.reading l.port).in_flight ≡ l.at;
  tags : AreBelow l.at (g.P.PageSink.reading l.port).in_flight;
  room : (g.P.PageSink.reading l.port).room ≡ (g.P.PageSink.reading l.fn.port).room;
  written : g.P.PageSink.written l.port ≡ g.P.PageSink.written l.fn.port;
  all : AllNamed l.owner (names l.frames.items (g.P.PageSink.reading l.port).in_flight);
}

abbrev pub invariant-reaps : goal.invariant-reaps
invariant-reaps g l = record {
  under_way : length (g.P.PageSink.reading l.port).in_flight + l.counter ≡ l.count;
  seen : (vec_len l.seen ≡ l.counter) × (l.count ≤ vec_capacity l.seen);
  back : (vec_len l.back ≡ l.counter) × (l.count ≤ vec_capacity l.back);
  room : (g.P.PageSink.reading l.port).room ≡ (g.P.PageSink.reading l.fn.port).room;
  written : g.P.PageSink.written l.port ≡ g.P.PageSink.written l.fn.port;
  all : AllNamed l.owner (names l.back.items (g.P.PageSink.reading l.port).in_flight);
}
