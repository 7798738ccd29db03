use Rattle.std.proofs.Common.{◌≡◌, List, ◌++◌, take, drop, length, map, sym, ap, subst, ◌∙◌, arith}
use Rattle.std.specs.List.{count_by}
use Rattle.std.proofs.lemmas.List.{take_at, length-map}
use Rattle.hv_pool.specs.declared.slot.Slot.{Slot}
use Rattle.hv_pool.specs.Slots.{is_open}
use Rattle.hv_pool.specs.Moves.{forgotten}
use Rattle.hv_pool.specs.Made.{owner_of}
use Rattle.hv_pool.specs.Shape.{IsInOrder}
use Rattle.hv_pool.specs.Index.{IsIndexed}
use Rattle.hv_pool.specs.declared.order.Node.{Node}
use Rattle.hv_pool.specs.Order.{IsOrdered}
use Rattle.hv_pool.proofs.Ordered.{ordered_back}
use Rattle.hv_pool.proofs.Indexed.{forget_index}
use Rattle.hv_pool.proofs.Made.{forgets_order}
use Rattle.hv_pool.proofs.pool.Pool.forget.Goals as goal

pub invariant_of-self : goal.invariant_of-self
invariant_of-self c =
    let slots : List Slot = c.self.inside.slots.items in
    let new : List Slot = c.forget_all-self-inside.new.slots in
    let is : new ≡ map (forgotten c.args.who) slots = c.forget_all-self-inside.ensures.slots ∙ ap (map (forgotten c.args.who)) c.as_mut_slice.ensures.value in
    let long = ap length is ∙ length-map slots (forgotten c.args.who) in
    let whole = sym (take_at new _ c.self.inside.slots.len (omega (arith, long, c.self.inside.slots.ok.0))) in
    let back = sym is ∙ whole in
    let tree : List Node = c.forget_all-self-inside.new.tree in
    let opens = c.forget_all-self-inside.ensures.openings ∙ ap (count_by is_open) is in (
      subst (λ (l : List Slot). IsInOrder (owner_of c.self.inside.mark.value.items) l c.self.inside.came c.forget_all-self-inside.result) back
          (forgets_order _ slots c.self.inside.came c.self.inside.openings c.forget_all-self-inside.result c.args.who c.self.invariant.0 opens),
      record { none = c.self.invariant.1.none; wide = omega (arith, c.self.invariant.1.wide, ap length back, length-map slots (forgotten c.args.who)) },
      subst (λ (l : List Slot). IsIndexed c.self.inside.links.items l) back (forget_index c.self.inside.links.items slots c.args.who c.self.invariant.2),
      subst (λ (l : List Slot). IsOrdered (take c.self.inside.tree.len (tree ++ drop (length tree) c.self.inside.tree.items)) l) whole
          (ordered_back c.self.inside.tree.items tree c.self.inside.tree.len new (c.forget_all-self-inside.ensures.length ∙ ap length c.as_mut_slice-2.ensures.value) c.self.inside.tree.ok.0 c.forget_all-self-inside.ensures.ordered),
    )
