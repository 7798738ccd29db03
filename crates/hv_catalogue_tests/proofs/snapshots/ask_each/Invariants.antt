-- No page of an open file is left.
use Rattle.std.proofs.Common.{◌≡◌, Some, []}
use Rattle.hv_catalogue_tests.proofs.snapshots.ask_each.Given as goal

abbrev pub invariant-loop-step : goal.invariant-loop-step
invariant-loop-step g l = g.P.PageSink.written l.port ≡ Some []
