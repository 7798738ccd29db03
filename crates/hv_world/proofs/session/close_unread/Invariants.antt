-- the ports that are left have read nothing, and those that came back are as if they had never gone
use Rattle.std.proofs.Common.{length}
use Rattle.hv_dev.specs.Reading.{Back}
use Rattle.hv_world.specs.World.{ports_out}
use Rattle.hv_world.specs.Unused.{IsUnused}
use Rattle.hv_world.specs.Turns.{AreUnread}
use Rattle.hv_world.proofs.session.close_unread.Given as goal

abbrev pub invariant-loop-session : goal.invariant-loop-session
invariant-loop-session g l =
    AreUnread g.D.Port.PageSink l.sessions.items
    × ((before : Back g.row.D-Port-File.Denot) → IsUnused (ports_out (length l.initial.sessions.items) before) (g.D.Device.returned l.initial.dev)
    → IsUnused (ports_out (length l.sessions.items) before) (g.D.Device.returned l.dev))

abbrev pub decreases-loop-session : goal.decreases-loop-session
decreases-loop-session g l = length l.sessions.items
