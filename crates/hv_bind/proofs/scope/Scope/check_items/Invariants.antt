-- What is refused from here on is what is refused of all.
use Rattle.std.proofs.Common.{◌≡◌, map, drop}
use Rattle.hv_model.specs.Causes.{first_of}
use Rattle.hv_model.specs.Bound.{item_refusal}
use Rattle.hv_bind.proofs.scope.Scope.check_items.Given as goal

abbrev pub invariant-loop-item : goal.invariant-loop-item
invariant-loop-item l = first_of (map (item_refusal l.self.places.now l.self.heads.now) (drop l.item-index l.items)) ≡ first_of (map (item_refusal l.self.places.now l.self.heads.now) l.items)
