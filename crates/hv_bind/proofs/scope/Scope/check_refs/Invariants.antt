-- What is refused from here on is what is refused of all.
use Rattle.std.proofs.Common.{◌≡◌, map, drop}
use Rattle.hv_model.specs.Causes.{first_of}
use Rattle.hv_model.specs.Bound.{ref_refusal}
use Rattle.hv_bind.proofs.scope.Scope.check_refs.Given as goal

abbrev pub invariant-loop-reference : goal.invariant-loop-reference
invariant-loop-reference l = first_of (map (ref_refusal l.self.places.now l.self.heads.now) (drop l.reference-index l.references)) ≡ first_of (map (ref_refusal l.self.places.now l.self.heads.now) l.references)
