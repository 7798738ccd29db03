-- the reports so far and those of the sessions that are left, which stand last first, are all
use Rattle.std.proofs.Common.{◌≡◌, ◌≤◌, ◌+◌, ◌++◌, reverse, length, vec_capacity}
use Rattle.hv_world.specs.World.{all_back, sessions_of}
use Rattle.hv_world.specs.Turns.{AreIdle, ports_of, replies_of}
use Rattle.hv_world.proofs.report.Blank.filled.Given as goal

abbrev pub invariant-loop-session : goal.invariant-loop-session
invariant-loop-session g l = record {
  told : l.reports.items ++ sessions_of (reverse l.names.items) (replies_of (reverse l.sessions.items)) ≡ sessions_of l.fn.names.items (replies_of l.fn.sessions.items);
  back : all_back (g.D.Device.returned l.dev) (ports_of g.D.Port.PageSink (reverse l.sessions.items))
      ≡ all_back (g.D.Device.returned l.fn.dev) (ports_of g.D.Port.PageSink l.fn.sessions.items);
  paired : length l.sessions.items ≡ length l.names.items;
  idle : AreIdle g.D.Port.PageSink l.sessions.items;
  room : length l.reports.items + length l.sessions.items ≤ vec_capacity l.reports;
}

abbrev pub decreases-loop-session : goal.decreases-loop-session
decreases-loop-session g l = length l.sessions.items
