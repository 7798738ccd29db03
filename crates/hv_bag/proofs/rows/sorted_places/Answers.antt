use Rattle.std.proofs.Common.{◌≡◌, map, subst, arith, IsPermutation}
use Rattle.std.proofs.lemmas.Grind.{common_steps}
use Rattle.std.proofs.lemmas.List.Sorted.{IsPermutation-map}
use Rattle.hv_bag.proofs.Compared.{sorted_map}
use Rattle.hv_bag.proofs.rows.sorted_places.Goals as goal

pub returns-clause-permutation : goal.returns-clause-permutation
returns-clause-permutation g c =
    let e : map (λ r. r.now) c.loop-row.places.items ≡ c.args.rows.now = grind (arith, common_steps) in
    subst (λ l. IsPermutation l (map (λ r. r.now) c.sort_unstable.new.self.items)) e (IsPermutation-map (λ r. r.now) _ _ c.sort_unstable.ensures.permutation)

pub returns-clause-sorted : goal.returns-clause-sorted
returns-clause-sorted g c = sorted_map g.T.Ord.cmp (λ r. r.now) c.sort_unstable.new.self.items c.sort_unstable.ensures.sorted
