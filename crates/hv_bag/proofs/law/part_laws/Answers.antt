-- The laws, part by part.
use Rattle.hv_bag.proofs.Parts.{part_itself, part_first, part_trans, part_both, part_append, one_rest, part_weighs, counts_from_part, part_from_counts, same_parted}
use Rattle.hv_bag.proofs.law.part_laws.Goals as goal

pub returns : goal.returns
returns g c = record {
  itself = part_itself;
  first = part_first;
  joined = part_trans;
  both = part_both;
  added = part_append;
  one_rest = one_rest;
  weighs = part_weighs;
  counted = λ same part whole apart. (counts_from_part same part whole, part_from_counts same apart part whole);
  parted = same_parted;
}
