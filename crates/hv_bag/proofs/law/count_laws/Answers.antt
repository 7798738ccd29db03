-- The laws, part by part.
use Rattle.hv_bag.proofs.Bags.{same_from_permutation}
use Rattle.hv_bag.proofs.Counts.{count_append, counts_from_same, same_from_counts, permutation_from_same}
use Rattle.hv_bag.proofs.law.count_laws.Goals as goal

pub returns : goal.returns
returns g c = record {
  sums = count_append;
  counted = λ same xs ys apart. (counts_from_same same xs ys, same_from_counts same apart xs ys);
  permuted = λ same xs ys apart h. permutation_from_same same apart xs ys h;
  unmoved = same_from_permutation;
}
