use Rattle.std.proofs.Common.{◌≡◌, ℕ, ◌+◌, ◌-◌, ◌≤◌, get_or, length, subst, arith}
use Rattle.hv_pool.specs.Order.{no_node, inner_of}
use Rattle.hv_pool.proofs.Ordered.{inner_bounds, root_least}
use Rattle.hv_pool.proofs.order.first_leaf.Goals as goal

-- the leaf has the root's turn
pub returns-clause-least : goal.returns-clause-least
returns-clause-least c = λ i below.
    let inner : length c.args.tree.now - c.args.count ≡ inner_of c.args.count = omega (arith, c.requires.long) in
    let leaf : c.loop-node.node ≡ inner_of c.args.count + (c.loop-node.node - (length c.args.tree.now - c.args.count)) = omega (arith, c.loop-node-test.false, inner) in
    subst (λ (k : ℕ). (get_or c.args.tree.now k no_node).turn ≤ (get_or c.args.tree.now i no_node).turn) leaf
    (omega (arith, root_least c.args.tree.now (inner_of c.args.count) c.requires.tree i (omega (arith, below, c.requires.long, inner_bounds c.args.count)), c.loop-node.invariant.same))
