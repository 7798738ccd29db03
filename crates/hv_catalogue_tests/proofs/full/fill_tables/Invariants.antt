-- No page of an open file is left.
use Rattle.std.proofs.Common.{◌≡◌, Some, []}
use Rattle.hv_catalogue_tests.proofs.full.fill_tables.Given as goal

abbrev pub invariant-loop-table : goal.invariant-loop-table
invariant-loop-table g l = g.P.PageSink.written l.port ≡ Some []
