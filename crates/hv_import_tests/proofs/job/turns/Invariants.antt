-- the job goes on, and the pages of the open file are its own
use Rattle.std.proofs.Common.{◌≡◌, false, Some}
use Rattle.hv_import_tests.proofs.job.turns.Given as goal

abbrev pub invariant-loop-went : goal.invariant-loop-went
invariant-loop-went g l = record {
  going : l.job.over ≡ false;
  mine : g.P.PageSink.written l.port ≡ Some l.job.pages;
}
