-- done where none can take a step
use Rattle.std.proofs.Common.{◌≡◌, ◌≢◌, [], length, sym, subst, ◌∙◌, arith, eqb-true}
use Rattle.std.proofs.lemmas.Bool.{eqb-false}
use Rattle.std.proofs.lemmas.List.{nil_from_length}
use Rattle.hv_world.specs.World.{IsDone}
use Rattle.hv_world.proofs.Ending.{all_done, not_done}
use Rattle.hv_world.proofs.world.World.done.Goals as goal

pub returns-clause-done : goal.returns-clause-done
returns-clause-done g c full =
    let w = c.self.inside in
    let none : w.unfinished.items ≡ [] = nil_from_length w.unfinished.items (sym w.unfinished.ok.0 ∙ eqb-true _ 0 (sym c.is_empty.ensures ∙ full)) in
    subst (λ v. IsDone v) c.self.view_is
    (all_done g.D.Port.File.PageFile.tells g.D.Port.File.PageFile.pages g.D.Port.PageSink w.script w.phase w.barrier w.catalogue w.sessions.items w.unfinished.items _ c.self.invariant none)

pub returns-clause-undone : goal.returns-clause-undone
returns-clause-undone g c some done =
    let w = c.self.inside in
    let not : length w.unfinished.items ≢ 0 = λ none. eqb-false _ 0 (sym c.is_empty.ensures ∙ some) (w.unfinished.ok.0 ∙ none) in
    not_done g.D.Port.File.PageFile.tells g.D.Port.File.PageFile.pages g.D.Port.PageSink w.script w.phase w.barrier w.catalogue w.sessions.items w.unfinished.items _ c.self.invariant
    (omega arith) (subst (λ v. IsDone v) (sym c.self.view_is) done)
