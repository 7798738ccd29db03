-- The conditions so far.
use Rattle.std.proofs.Common.{◌≡◌, map, take}
use Rattle.hv_model.specs.Bound.{cond_of}
use Rattle.hv_bind.proofs.scope.Scope.+cond_of.Given as goal

abbrev pub invariant-conds_of-loop-cond : goal.invariant-conds_of-loop-cond
invariant-conds_of-loop-cond l = l.bound ≡ map (cond_of l.self.places.now l.self.heads.now) (take l.cond-index l.conds)
