-- The laws, part by part.
use Rattle.hv_bag.proofs.Bags.{same_refl, same_sym, same_trans, same_append, same_swap, same_cancel, same_length}
use Rattle.hv_bag.proofs.law.bag_laws.Goals as goal

pub returns : goal.returns
returns g c = record {
  itself = same_refl;
  turned = λ xs ys h. same_sym h;
  joined = λ xs ys zs h k. same_trans h k;
  added = same_append;
  swapped = same_swap;
  cancelled = same_cancel;
  lengths = same_length;
}
