use Rattle.std.proofs.Common.{◌≡◌, ◌^◌, ◌-◌, get_or, sym, ap, arith}
use Rattle.std.proofs.Math.Nat.{min-eq_left}
use Rattle.std.proofs.lemmas.List.{get_or_past, get_or_default}
use Rattle.hv_pool.specs.declared.order.Node.{Node}
use Rattle.hv_pool.specs.Order.{no_node}
use Rattle.hv_pool.proofs.order.lesser.Goals as goal

-- the second is past the last, and has the greatest turn
pub returns-then-b-tree-clause-least : goal.returns-then-b-tree-clause-least
returns-then-b-tree-clause-least c =
    let tree = c.args.tree.now in
    let none : (get_or tree c.args.b no_node).turn ≡ 2 ^ 64 - 1 = ap (λ (a : Node). a.turn) (get_or_past tree c.args.b no_node c.if-b-tree.true) in
    sym (min-eq_left (omega (arith, none, c.element_fits.fits, ap (λ (a : Node). a.turn) (get_or_default tree c.args.a no_node (record { turn = 0; waits = 0 }) c.requires))))
