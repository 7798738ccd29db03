use Rattle.std.proofs.Common.{◌≡◌, ℕ, ◌+◌, ◌<◌, length, get_or, set}
use Rattle.hv_pool.specs.Order.{no_node, inner_of}
use Rattle.hv_pool.proofs.Ordered.{IsTreeBut}
use Rattle.hv_pool.proofs.order.set_leaf.Given as goal

-- only the node above `node` may tell another thing than the four below it
abbrev pub invariant-loop-node : goal.invariant-loop-node
invariant-loop-node l = record {
  long : length l.tree ≡ inner_of l.count + l.count;
  within : l.node < length l.tree;
  leaves : (n : ℕ) → n < l.count → get_or l.tree (inner_of l.count + n) no_node ≡ get_or (set l.fn.tree (inner_of l.count + l.place) l.fn.leaf) (inner_of l.count + n) no_node;
  tree : IsTreeBut l.node l.tree (inner_of l.count);
}

abbrev pub decreases-loop-node : goal.decreases-loop-node
decreases-loop-node l = l.node
