-- the rows before this one are pushed, and no page was written yet
use Rattle.std.proofs.Common.{◌≡◌, ◌≤◌, Some, length}
use Rattle.hv_import.specs.Job.{HasPushed}
use Rattle.hv_import.proofs.job.push_page.Given as goal

abbrev pub invariant-loop-at : goal.invariant-loop-at
invariant-loop-at g l = record {
  has : HasPushed l.rows l.at l.builder;
  from : l.from ≤ l.at;
  within : l.at ≤ length l.rows.rows;
  pages : l.builder.pages ≡ l.fn.builder.pages;
  mine : g.P.PageSink.written l.port ≡ Some l.builder.pages;
  calm : g.P.PageSink.write_faults l.port ≡ g.P.PageSink.write_faults l.fn.port;
  kept : g.P.PageSink.reading l.port ≡ g.P.PageSink.reading l.fn.port;
}
