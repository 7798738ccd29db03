use Rattle.std.proofs.Common.{◌≡◌, ◌-◌, ◌<◌, get_or, length}
use Rattle.hv_pool.specs.Order.{no_node}
use Rattle.hv_pool.proofs.order.first_leaf.Given as goal

-- `node` has the root's turn
abbrev pub invariant-loop-node : goal.invariant-loop-node
invariant-loop-node l = record {
  within : l.node < length l.tree;
  same : (get_or l.tree l.node no_node).turn ≡ (get_or l.tree 0 no_node).turn;
}

abbrev pub decreases-loop-node : goal.decreases-loop-node
decreases-loop-node l = length l.tree - l.node
