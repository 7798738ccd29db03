-- The columns so far.
use Rattle.std.proofs.Common.{◌≡◌, map, take}
use Rattle.hv_model.specs.Bound.{ref_of}
use Rattle.hv_bind.proofs.scope.Scope.columns_of.Given as goal

abbrev pub invariant-loop-reference : goal.invariant-loop-reference
invariant-loop-reference l = l.columns ≡ map (ref_of l.self.places.now l.self.heads.now) (take l.reference-index l.references)
