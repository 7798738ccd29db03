-- the places at or before one are those before the point of the partition
use Rattle.std.proofs.Common.{ℕ, sym, rules}
use Rattle.std.specs.Prelude.{nat_le}
use Rattle.std.proofs.lemmas.List.Sorted.{IsPartitionPoint-from_clause, IsPartitionedBy-leb}
use Rattle.hv_world.proofs.RoundPlaces.{count_parted}
use Rattle.hv_world.proofs.world.count_to.Goals as goal

pub returns : goal.returns
returns c =
    sym (count_parted (λ (at : ℕ). nat_le at c.args.last) c.args.places.now c.partition_point.result 0 c.partition_point.ensures.bound
    (IsPartitionPoint-from_clause (λ (at : ℕ). nat_le at c.args.last) c.args.places.now c.partition_point.result c.partition_point.ensures.partitioned
    (IsPartitionedBy-leb (λ (at : ℕ). at) c.args.places.now c.args.last c.requires.rising) (λ a r q k. search rules)))
