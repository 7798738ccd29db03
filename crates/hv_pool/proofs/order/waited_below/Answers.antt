use Rattle.std.proofs.Common.{◌∙◌, sym, ap}
use Rattle.hv_pool.specs.declared.order.Node.{Node}
use Rattle.hv_pool.specs.Slots.{waits_bit}
use Rattle.hv_pool.proofs.Ordered.{last_waited}
use Rattle.hv_pool.proofs.order.waited_below.Goals as goal

pub returns-clause-waited : goal.returns-clause-waited
returns-clause-waited c =
    last_waited c.args.tree.now c.args.who c.args.node c.requires.one
    (ap (λ (a : Node). waits_bit c.args.who a.waits) (sym c.node_at.ensures) ∙ sym c.has_wait.ensures ∙ c.if-has_wait.false)
    (ap (λ (a : Node). waits_bit c.args.who a.waits) (sym c.node_at-2.ensures) ∙ sym c.has_wait-2.ensures ∙ c.if-has_wait-2.false)
    (ap (λ (a : Node). waits_bit c.args.who a.waits) (sym c.node_at-3.ensures) ∙ sym c.has_wait-3.ensures ∙ c.if-has_wait-3.false)
