use Rattle.std.proofs.Common.{◌≡◌, map, take}
use Rattle.hv_bag.proofs.rows.sorted_places.Given as goal

abbrev pub invariant-loop-row : goal.invariant-loop-row
invariant-loop-row g l = map (λ r. r.now) l.places.items ≡ take l.row-index l.rows
