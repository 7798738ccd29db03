-- What is refused from here on is what is refused of all.
use Rattle.std.proofs.Common.{◌≡◌, take, drop}
use Rattle.hv_model.specs.Scope.{refusal_behind, places_refusal}
use Rattle.hv_bind.proofs.place.places.Given as goal

abbrev pub invariant-loop-at : goal.invariant-loop-at
invariant-loop-at l = refusal_behind (take l.at l.places) l.at l.absent (drop l.at l.places) ≡ places_refusal l.places l.absent
