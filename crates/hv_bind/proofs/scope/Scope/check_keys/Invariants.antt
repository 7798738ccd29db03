-- What is refused from here on is what is refused of all.
use Rattle.std.proofs.Common.{◌≡◌, map, drop}
use Rattle.hv_model.specs.Causes.{first_of}
use Rattle.hv_model.specs.Bound.{key_refusal}
use Rattle.hv_bind.proofs.scope.Scope.check_keys.Given as goal

abbrev pub invariant-loop-key : goal.invariant-loop-key
invariant-loop-key l = first_of (map (λ k. key_refusal l.self.places.now l.self.heads.now k.by) (drop l.key-index l.keys)) ≡ first_of (map (λ k. key_refusal l.self.places.now l.self.heads.now k.by) l.keys)
