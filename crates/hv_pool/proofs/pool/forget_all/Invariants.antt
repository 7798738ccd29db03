use Rattle.std.proofs.Common.{◌≡◌, map, length}
use Rattle.std.specs.List.{count_by}
use Rattle.hv_pool.specs.Slots.{is_open, waits_bit}
use Rattle.hv_pool.specs.Moves.{forgotten}
use Rattle.hv_pool.specs.Order.{IsOrdered}
use Rattle.hv_pool.proofs.pool.forget_all.Given as goal

-- some waits of the session ended, and nothing else
abbrev pub invariant-loop-n : goal.invariant-loop-n
invariant-loop-n l = record {
  same : map (forgotten l.who) l.slots ≡ map (forgotten l.who) l.fn.slots;
  counted : l.left ≡ count_by is_open l.slots;
  ordered : IsOrdered l.tree l.slots;
  long : length l.tree ≡ length l.fn.tree;
  short : length l.slots ≡ length l.fn.slots;
}

abbrev pub decreases-loop-n : goal.decreases-loop-n
decreases-loop-n l = count_by (λ s. waits_bit l.who s.waits) l.slots
