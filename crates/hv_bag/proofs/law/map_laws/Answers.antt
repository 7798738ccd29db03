-- The laws, part by part.
use Rattle.hv_bag.proofs.Bags.{same_map, same_filter, same_flat_map}
use Rattle.hv_bag.proofs.Counts.{fold_same}
use Rattle.hv_bag.proofs.law.map_laws.Goals as goal

pub returns : goal.returns
returns g c = record {
  weighed = λ weight xs ys h. h.weighs weight;
  mapped = same_map;
  filtered = same_filter;
  listed = same_flat_map;
  folded = fold_same;
}
