-- No page of an open file is left.
use Rattle.std.proofs.Common.{◌≡◌, Some, []}
use Rattle.hv_catalogue_tests.proofs.asked.ask_all.Given as goal

abbrev pub invariant-loop-case : goal.invariant-loop-case
invariant-loop-case g l = g.P.PageSink.written l.port ≡ Some []
