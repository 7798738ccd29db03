-- the sessions of a world that is done are idle, and the outcome is legal
use Rattle.std.proofs.Common.{List, length, sym, ap, subst, ◌∙◌}
use Rattle.hv_model.specs.Legal.{Legal}
use Rattle.hv_world.specs.Known.{Known}
use Rattle.hv_world.specs.World.{AreCausedSoFar, IsDone, landings_of}
use Rattle.hv_world.proofs.Ending.{end_legal, end_idle, lists_paired}
use Rattle.hv_world.proofs.PickKept.{kept_causes}
use Rattle.hv_world.proofs.world.World.report.Goals as goal

pub filled-sessions-requires-clause-paired : goal.filled-sessions-requires-clause-paired
filled-sessions-requires-clause-paired g c =
    let w = c.self.inside in
    lists_paired g.D.Port.File.PageFile.tells g.D.Port.File.PageFile.pages g.D.Port.PageSink w.script w.phase w.barrier w.catalogue w.sessions.items w.unfinished.items _ c.self.invariant
    ∙ ap (λ (xs : List _). length xs) (sym c.into_vec.ensures)

pub filled-sessions-requires-clause-idle : goal.filled-sessions-requires-clause-idle
filled-sessions-requires-clause-idle g c =
    let w = c.self.inside in
    end_idle g.D.Port.File.PageFile.tells g.D.Port.File.PageFile.pages g.D.Port.PageSink w.script w.phase w.barrier w.catalogue w.sessions.items w.unfinished.items _ c.self.invariant
    (subst (λ v. IsDone v) (sym c.self.view_is) c.requires.done)

pub returns-clause-legal : goal.returns-clause-legal
returns-clause-legal g c max =
    let w = c.self.inside in
    subst (λ v. Legal v.script max (Known g.D.Port.File.PageFile.tells v.script v.held.history (landings_of v.ports)) v.held.history v.replies) c.self.view_is
    (end_legal g.D.Port.File.PageFile.tells g.D.Port.File.PageFile.pages g.D.Port.PageSink w.script w.phase w.barrier w.catalogue w.sessions.items w.unfinished.items _ c.self.invariant
    (subst (λ v. IsDone v) (sym c.self.view_is) c.requires.done) max)

pub returns-clause-causes : goal.returns-clause-causes
returns-clause-causes g c =
    let w = c.self.inside in
    subst (λ v. AreCausedSoFar g.D.Port.File.PageFile.tells v) c.self.view_is
    (kept_causes g.D.Port.File.PageFile.tells g.D.Port.File.PageFile.pages g.D.Port.PageSink w.script w.phase w.barrier w.catalogue w.sessions.items w.unfinished.items _ w.last c.self.invariant)
