use Rattle.std.proofs.Common.{◌≡◌, ◌-◌, ◌<◌, get_or, length, true}
use Rattle.hv_pool.specs.Slots.{waits_bit}
use Rattle.hv_pool.specs.Order.{no_node}
use Rattle.hv_pool.proofs.order.waited_leaf.Given as goal

-- the session waits at `node`
abbrev pub invariant-loop-node : goal.invariant-loop-node
invariant-loop-node l = record {
  within : l.node < length l.tree;
  waited : waits_bit l.who (get_or l.tree l.node no_node).waits ≡ true;
}

abbrev pub decreases-loop-node : goal.decreases-loop-node
decreases-loop-node l = length l.tree - l.node
