use Rattle.std.proofs.Common.{◌∙◌, sym, ap}
use Rattle.hv_pool.specs.declared.order.Node.{Node}
use Rattle.hv_pool.specs.Slots.{waits_bit}
use Rattle.hv_pool.proofs.Ordered.{root_unwaited}
use Rattle.hv_pool.proofs.order.find_waited.Goals as goal

pub returns-clause-none : goal.returns-clause-none
returns-clause-none c = root_unwaited c.args.tree.now c.args.slots.now c.args.who c.requires.ordered (ap (λ (a : Node). waits_bit c.args.who a.waits) (sym c.node_at.ensures) ∙ sym c.has_wait.ensures ∙ c.if-has_wait.false)
