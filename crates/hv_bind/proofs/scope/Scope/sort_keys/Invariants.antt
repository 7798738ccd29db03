-- The keys so far; what is refused from here on is what is refused of all.
use Rattle.std.proofs.Common.{◌≡◌, map, take, drop}
use Rattle.hv_model.specs.Bound.{key_of}
use Rattle.hv_bind.specs.Keys.{keys_refusal}
use Rattle.hv_bind.proofs.scope.Scope.sort_keys.Given as goal

abbrev pub invariant-loop-key : goal.invariant-loop-key
invariant-loop-key l = record {
  made : l.bound ≡ map (key_of l.self.places.now l.self.heads.now l.items) (take l.key-index l.keys);
  rest : keys_refusal l.self.places.now l.self.heads.now l.items (drop l.key-index l.keys) ≡ keys_refusal l.self.places.now l.self.heads.now l.items l.keys;
}
