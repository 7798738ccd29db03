-- No page of an open file is left.
use Rattle.std.proofs.Common.{◌≡◌, Some, []}
use Rattle.hv_catalogue_tests.proofs.full.fill_history.Given as goal

abbrev pub invariant-loop-pair : goal.invariant-loop-pair
invariant-loop-pair g l = g.P.PageSink.written l.port ≡ Some []
