-- one more session, and all of them
use Rattle.std.proofs.Common.{take, sym, take_all}
use Rattle.std.proofs.lemmas.List.{take_more}
use Rattle.hv_world.proofs.ReadyPlaces.{next_phase_more}
use Rattle.hv_world.proofs.ready.next_phase.Goals as goal

pub loop-session-preserved : goal.loop-session-preserved
loop-session-preserved g c =
    rw (take_more c.args.sessions.now c.loop-session.session-index c.session-item.result c.loop-session-test.true, sym c.session-item.is, c.earlier-least.ensures, c.next.ensures)
    (next_phase_more (take c.loop-session.session-index c.args.sessions.now) c.loop-session.least c.session-item.result c.loop-session.invariant)

pub returns : goal.returns
returns g c = rw (sym (take_all c.loop-session.session-index c.args.sessions.now c.loop-session-test.false)) c.loop-session.invariant
