-- What is refused from here on is what is refused of all.
use Rattle.std.proofs.Common.{◌≡◌, map, drop}
use Rattle.hv_model.specs.Causes.{first_of}
use Rattle.hv_model.specs.Bound.{plain_refusal}
use Rattle.hv_bind.proofs.scope.Scope.check_all_plain.Given as goal

abbrev pub invariant-loop-item : goal.invariant-loop-item
invariant-loop-item l =
    first_of (map (plain_refusal l.self.places.now l.self.heads.now l.groups) (drop l.item-index l.items))
    ≡ first_of (map (plain_refusal l.self.places.now l.self.heads.now l.groups) l.items)
