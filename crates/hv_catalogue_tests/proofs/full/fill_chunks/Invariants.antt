-- No page of an open file is left.
use Rattle.std.proofs.Common.{◌≡◌, Some, []}
use Rattle.hv_catalogue_tests.proofs.full.fill_chunks.Given as goal

abbrev pub invariant-loop-chunk : goal.invariant-loop-chunk
invariant-loop-chunk g l = g.P.PageSink.written l.port ≡ Some []
