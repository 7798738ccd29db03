-- What is refused from here on is what is refused of all.
use Rattle.std.proofs.Common.{◌≡◌, map, drop}
use Rattle.hv_model.specs.Causes.{first_of}
use Rattle.hv_model.specs.Bound.{cond_refusal}
use Rattle.hv_bind.proofs.scope.Scope.+check_cond.Given as goal

abbrev pub invariant-check_conds-loop-cond : goal.invariant-check_conds-loop-cond
invariant-check_conds-loop-cond l = first_of (map (cond_refusal l.self.places.now l.self.heads.now) (drop l.cond-index l.conds)) ≡ first_of (map (cond_refusal l.self.places.now l.self.heads.now) l.conds)
