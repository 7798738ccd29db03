-- the names of the places so far
use Rattle.std.proofs.Common.{◌≡◌, map, take}
use Rattle.hv_world.proofs.binding.first_names.Given as goal

abbrev pub invariant-loop-place : goal.invariant-loop-place
invariant-loop-place l = l.names.items ≡ map (λ p. p.table.name) (take l.place-index l.first)
