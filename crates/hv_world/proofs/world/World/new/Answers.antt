-- the sessions that were opened, in the first phase in which one has a statement
use Rattle.std.proofs.Common.{None, arith}
use Rattle.hv_world.proofs.PickKept.{kept_legal, kept_causes}
use Rattle.hv_world.proofs.Starting.{kept_opened, fresh_start}
use Rattle.hv_world.proofs.world.World.new.Goals as goal

pub invariant_of-result : goal.invariant_of-result
invariant_of-result g c =
    kept_opened g.D.Port.File.PageFile.tells g.D.Port.File.PageFile.pages g.D.Port.PageSink c.args.script c.requires.sessions c.requires.bounds c.in_ok-catalogue.catalogue c.in_ok-sessions.sessions.items
    c.as_slice-2.result.now c.as_slice-3.result.now c.next_phase.result c.unwrap_or-phase.result c.fill_ready.new.ready.items _ c.in_ok-catalogue.ensures c.in_ok-sessions.ensures.fresh
    c.as_slice-2.ensures.value c.as_slice-3.ensures.value c.unwrap_or-phase.ensures c.next_phase.ensures c.fill_ready.ensures.ready
    (omega (arith, c.fill_ready.ensures.room, c.in_ok-unfinished.ensures.capacity, c.len.ensures))

pub returns-clause-fresh : goal.returns-clause-fresh
returns-clause-fresh g c =
    fresh_start g.D.Port.PageSink c.args.script c.unwrap_or-phase.result c.in_ok-catalogue.catalogue c.in_ok-sessions.sessions.items c.in_ok-catalogue.ensures c.in_ok-sessions.ensures.fresh

pub returns-clause-legal : goal.returns-clause-legal
returns-clause-legal g c =
    kept_legal g.D.Port.File.PageFile.tells g.D.Port.File.PageFile.pages g.D.Port.PageSink c.args.script c.unwrap_or-phase.result 0 c.in_ok-catalogue.catalogue c.in_ok-sessions.sessions.items
    c.fill_ready.new.ready.items _ None (invariant_of-result g c)

pub returns-clause-causes : goal.returns-clause-causes
returns-clause-causes g c =
    kept_causes g.D.Port.File.PageFile.tells g.D.Port.File.PageFile.pages g.D.Port.PageSink c.args.script c.unwrap_or-phase.result 0 c.in_ok-catalogue.catalogue c.in_ok-sessions.sessions.items
    c.fill_ready.new.ready.items _ None (invariant_of-result g c)
