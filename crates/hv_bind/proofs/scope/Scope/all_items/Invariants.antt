-- The items so far and those from here on are all.
use Rattle.std.proofs.Common.{◌≡◌, ◌++◌, drop}
use Rattle.hv_model.specs.Bound.{all_items}
use Rattle.hv_bind.proofs.scope.Scope.all_items.Given as goal

abbrev pub invariant-loop-item : goal.invariant-loop-item
invariant-loop-item l =
    l.list ++ all_items l.self.places.now l.self.heads.now (drop l.item-index l.items) ≡ all_items l.self.places.now l.self.heads.now l.items
