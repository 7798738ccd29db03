use Rattle.std.proofs.Common.{◌≡◌, ℕ, ◌+◌, ◌<◌, cond, List, length, set, refl, sym, ap, ◌∙◌, subst, arith}
use Rattle.std.specs.List.{count_by}
use Rattle.std.proofs.lemmas.List.{get_or-set_same, length-set}
use Rattle.std.proofs.lemmas.List.Sums.{count_by-le-length}
use Rattle.hv_pool.specs.declared.slot.Slot.{Slot}
use Rattle.hv_frames.specs.Frames.{Framed}
use Rattle.hv_pool.specs.Slots.{Pooled, IsAway, is_away, is_open}
use Rattle.hv_pool.specs.Moves.{Arrives, brings, notes}
use Rattle.hv_pool.proofs.Places.{away_at, at_place, no_slot, return_order, arrives_to}
use Rattle.hv_pool.specs.Shape.{IsInOrder}
use Rattle.hv_pool.specs.Made.{owner_of}
use Rattle.hv_pool.specs.Order.{IsOrdered}
use Rattle.hv_pool.proofs.Ordered.{ordered_back}
use Rattle.hv_pool.proofs.Indexed.{return_index}
use Rattle.hv_pool.proofs.pool.Pool.arrive.Goals as goal

-- the frame's place is away in the pool as it is inside
gone_at : {p q : Pooled} {frame : Framed} (n : ℕ) → p ≡ q → IsAway q frame → n ≡ frame.number → 0 < count_by (is_away n) p.slots
gone_at {p} {q} {frame} n same away number = subst (λ (m : ℕ). 0 < count_by (is_away m) p.slots) (sym number) (subst (λ (r : Pooled). 0 < count_by (is_away frame.number) r.slots) (sym same) away.away)

-- and one of the places
within_of : {p q : Pooled} {frame : Framed} (openings n : ℕ) → p ≡ q → IsInOrder p.owner p.slots p.came openings → IsAway q frame → n ≡ frame.number → n < length p.slots
within_of {p} openings n same o away number = (away_at p.owner p.slots p.came openings n o (gone_at n same away number) no_slot).within

pub index_mut-requires : goal.index_mut-requires
index_mut-requires c =
    let within : c.number-n.result < length c.self.inside.slots.items = within_of c.self.inside.openings c.number-n.result c.self.view_is c.self.invariant.0 c.requires.away c.number-n.ensures in
    omega (arith, within, c.self.inside.slots.ok.0)

pub put_back-requires : goal.put_back-requires
put_back-requires c =
    let slots : List Slot = c.self.inside.slots.items in
    let n = c.number-n.result in
    let h : 0 < count_by (is_away n) slots = gone_at n c.self.view_is c.requires.away c.number-n.ensures in
    let p = at_place _ slots c.self.inside.came c.self.inside.openings n c.index_mut.result.now c.self.invariant.0 h c.index_mut.ensures.value in
    p.1.away p.0.gone

pub index-requires : goal.index-requires
index-requires c =
    let within : c.number-n.result < length c.self.inside.slots.items = within_of c.self.inside.openings c.number-n.result c.self.view_is c.self.invariant.0 c.requires.away c.number-n.ensures in
    omega (arith, within, c.self.inside.slots.ok.0)

pub overflow_add-self : goal.overflow_add-self
overflow_add-self c =
    let slots : List Slot = c.self.inside.slots.items in
    let n = c.number-n.result in
    let h : 0 < count_by (is_away n) slots = gone_at n c.self.view_is c.requires.away c.number-n.ensures in
    let own = c.requires.away.owner ∙ ap (λ (p : Pooled). p.owner) (sym c.self.view_is) in
    let there : c.index.result.now ≡ c.put_back.new.slot = c.index.ensures ∙ get_or-set_same slots n c.put_back.new.slot c.index.result.now (away_at _ slots c.self.inside.came c.self.inside.openings n c.self.invariant.0 h no_slot).within in
    let opens : c.self.inside.openings + c.openings_of.result ≡ c.self.inside.openings + cond (is_open c.put_back.new.slot) 1 0 = ap (λ (k : ℕ). c.self.inside.openings + k) (c.openings_of.ensures ∙ ap {B = ℕ} (λ z. cond (is_open z) 1 0) there) in
    let o = return_order _ slots c.self.inside.came 0 c.self.inside.openings (c.self.inside.openings + c.openings_of.result) n (brings c.args.way) (notes c.args.way) c.args.key.now c.args.frame c.index_mut.result.now c.put_back.new.slot c.self.invariant.0 h c.index_mut.ensures.value c.put_back.ensures own (sym c.number-n.ensures) c.requires.digest opens in
    omega (arith, o.counted, count_by-le-length is_open (set slots n c.put_back.new.slot), o.short)

pub reorder-requires-clause-within : goal.reorder-requires-clause-within
reorder-requires-clause-within c =
    let within : c.number-n.result < length c.self.inside.slots.items = within_of c.self.inside.openings c.number-n.result c.self.view_is c.self.invariant.0 c.requires.away c.number-n.ensures in
    subst (λ (l : List Slot). c.number-n.result < length l) (sym c.as_slice.ensures.value) (omega (arith, within, length-set c.self.inside.slots.items c.number-n.result c.put_back.new.slot))

pub invariant_of-self : goal.invariant_of-self
invariant_of-self c =
    let slots : List Slot = c.self.inside.slots.items in
    let n = c.number-n.result in
    let h : 0 < count_by (is_away n) slots = gone_at n c.self.view_is c.requires.away c.number-n.ensures in
    let own = c.requires.away.owner ∙ ap (λ (p : Pooled). p.owner) (sym c.self.view_is) in
    let there : c.index.result.now ≡ c.put_back.new.slot = c.index.ensures ∙ get_or-set_same slots n c.put_back.new.slot c.index.result.now (away_at _ slots c.self.inside.came c.self.inside.openings n c.self.invariant.0 h no_slot).within in
    let opens : c.self.inside.openings + c.openings_of.result ≡ c.self.inside.openings + cond (is_open c.put_back.new.slot) 1 0 = ap (λ (k : ℕ). c.self.inside.openings + k) (c.openings_of.ensures ∙ ap {B = ℕ} (λ z. cond (is_open z) 1 0) there) in (
      return_order _ slots c.self.inside.came _ c.self.inside.openings _ n (brings c.args.way) (notes c.args.way) c.args.key.now c.args.frame c.index_mut.result.now c.put_back.new.slot c.self.invariant.0 h c.index_mut.ensures.value c.put_back.ensures own (sym c.number-n.ensures) c.requires.digest opens,
      record { none = c.self.invariant.1.none; wide = omega (arith, c.self.invariant.1.wide, length-set slots n c.put_back.new.slot) },
      return_index c.self.inside.links.items _ slots c.self.inside.came c.self.inside.openings n (brings c.args.way) (notes c.args.way) c.args.key.now c.args.frame c.index_mut.result.now c.put_back.new.slot c.self.invariant.2 c.self.invariant.0 h c.index_mut.ensures.value c.put_back.ensures,
      ordered_back c.self.inside.tree.items c.reorder.new.tree c.self.inside.tree.len (set slots n c.put_back.new.slot) (c.reorder.ensures.length ∙ ap length c.as_mut_slice.ensures.value) c.self.inside.tree.ok.0
          (subst (λ (l : List Slot). IsOrdered c.reorder.new.tree l) c.as_slice.ensures.value c.reorder.ensures.ordered),
    )

pub returns-clause-change : goal.returns-clause-change
returns-clause-change c =
    let slots : List Slot = c.self.inside.slots.items in
    let n = c.number-n.result in
    let h : 0 < count_by (is_away n) slots = gone_at n c.self.view_is c.requires.away c.number-n.ensures in
    let old : Pooled = record { owner = owner_of c.self.inside.mark.value.items; slots = slots; came = c.self.inside.came } in
    let new : Pooled = record { owner = owner_of c.self.inside.mark.value.items; slots = set slots n c.put_back.new.slot; came = c.came_after-self-inside.result } in
    subst (λ (p : Pooled). Arrives c.args.way p c.args.key.now c.args.frame new) c.self.view_is
    (arrives_to c.args.way old new c.self.inside.openings n c.args.key.now c.args.frame c.index_mut.result.now c.put_back.new.slot c.self.invariant.0 h c.index_mut.ensures.value c.put_back.ensures (sym c.number-n.ensures) refl refl c.came_after-self-inside.ensures)
