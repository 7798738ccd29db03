use Rattle.std.proofs.Common.{◌≡◌, ℕ, ◌+◌, ◌*◌, ◌-◌, ◌^◌, ◌∙◌, List, replicate, length, drop, take, ◌++◌, sym, ap, subst, arith}
use Rattle.std.proofs.lemmas.List.{take_at}
use Rattle.std.proofs.lemmas.List.FromFn.{length-map-range_with_len}
use Rattle.hv_frames.specs.Frames.{Framed}
use Rattle.hv_pool.specs.declared.slot.Slot.{Slot}
use Rattle.hv_pool.specs.Index.{IsIndexed}
use Rattle.hv_pool.specs.declared.order.Node.{Node}
use Rattle.hv_pool.specs.Order.{fresh_node, inner_of, IsOrdered}
use Rattle.hv_pool.proofs.Ordered.{fresh_order}
use Rattle.hv_pool.specs.Made.{owner_of, empty_slot}
use Rattle.hv_pool.proofs.Indexed.{fresh_index}
use Rattle.hv_pool.specs.Shape.{IsInOrder}
use Rattle.hv_pool.proofs.Made.{count_is, length_numbers, filled_order}
use Rattle.hv_pool.proofs.pool.Pool.new.Goals as goal

pub empty_chains-requires : goal.empty_chains-requires
empty_chains-requires c = omega (arith, c.len.ensures, c.args.frames.ok.0, count_is c.args.frames.items c.requires, c.requires.count)

pub first_tree-requires : goal.first_tree-requires
first_tree-requires c = omega (arith, c.len-2.ensures, c.args.frames.ok.0, count_is c.args.frames.items c.requires, c.requires.count)

pub empty_slots-requires : goal.empty_slots-requires
empty_slots-requires c = omega (arith, c.len-3.ensures, c.args.frames.ok.0, count_is c.args.frames.items c.requires, c.requires.count)

pub overflow_cast-result : goal.overflow_cast-result
overflow_cast-result c = omega (arith, c.len-4.ensures, c.len-3.ensures, c.args.frames.ok.0, count_is c.args.frames.items c.requires, c.requires.count, ap length c.in-Ok-empty_slots.ensures, length-map-range_with_len empty_slot 0 c.len-3.result, c.in-Ok-empty_slots.slots.ok.0)

pub invariant_of-result : goal.invariant_of-result
invariant_of-result c =
    let frames : List Framed = c.args.frames.items in
    let new : List Slot = c.fill_all.new.slots in
    let made : length new ≡ length frames = length_numbers new (length frames) c.fill_all.ensures.filled.numbers in
    let long : length new ≡ c.in-Ok-empty_slots.slots.len = omega (arith, made, ap length c.in-Ok-empty_slots.ensures, length-map-range_with_len empty_slot 0 c.len-3.result, c.len-3.ensures, c.in-Ok-empty_slots.slots.ok.0, c.args.frames.ok.0) in
    let same_first : c.len.result ≡ length new = omega (arith, made, c.len.ensures, c.args.frames.ok.0) in
    let same : c.len-2.result ≡ length new = omega (arith, made, c.len-2.ensures, c.args.frames.ok.0) in
    let back = sym (take_at new (drop (length new) c.in-Ok-empty_slots.slots.items) c.in-Ok-empty_slots.slots.len long) in
    let counted : length new ≡ c.len-4.result = omega (arith, long, c.len-4.ensures) in
    let owner = ap (λ v. owner_of v.items) (sym c.of-mark.ensures) in (
      subst (λ o. IsInOrder o (take c.in-Ok-empty_slots.slots.len (new ++ drop (length new) c.in-Ok-empty_slots.slots.items)) 1 c.len-4.result) owner
          (subst (λ (l : List Slot). IsInOrder (owner_of frames) l 1 c.len-4.result) back
          (subst (λ (k : ℕ). IsInOrder (owner_of frames) new 1 k) counted (filled_order frames new c.requires c.fill_all.ensures.filled))),
      record { none = c.fill_all.ensures.none; wide = omega (arith, ap length back, made, c.fill_all.ensures.room, c.args.frames.ok) },
      subst (λ (l : List Slot). IsIndexed c.in-Ok.links.items l) back
          (fresh_index c.in-Ok.links.items frames new c.fill_all.ensures.filled (omega (arith, made, count_is frames c.requires, c.requires.count)) (c.in-Ok.ensures ∙ ap {B = List ℕ} (λ (k : ℕ). replicate (2 * k) (2 ^ 32 - 1)) same_first)),
      subst (λ (l : List Slot). IsOrdered c.in-Ok-first_tree.tree.items l) back
          (fresh_order c.in-Ok-first_tree.tree.items frames new c.fill_all.ensures.filled (c.in-Ok-first_tree.ensures ∙ ap {B = List Node} (λ (k : ℕ). replicate (inner_of k + k) fresh_node) same)),
    )

pub returns-clause-pool : goal.returns-clause-pool
returns-clause-pool c =
    let frames : List Framed = c.args.frames.items in
    let new : List Slot = c.fill_all.new.slots in
    let made : length new ≡ length frames = length_numbers new (length frames) c.fill_all.ensures.filled.numbers in
    let long : length new ≡ c.in-Ok-empty_slots.slots.len = omega (arith, made, ap length c.in-Ok-empty_slots.ensures, length-map-range_with_len empty_slot 0 c.len-3.result, c.len-3.ensures, c.in-Ok-empty_slots.slots.ok.0, c.args.frames.ok.0) in
    let back = sym (take_at new (drop (length new) c.in-Ok-empty_slots.slots.items) c.in-Ok-empty_slots.slots.len long) in
    let counted : length new ≡ c.len-4.result = omega (arith, long, c.len-4.ensures) in
    let owner = ap (λ v. owner_of v.items) (sym c.of-mark.ensures) in
    (subst (λ o. IsInOrder o (take c.in-Ok-empty_slots.slots.len (new ++ drop (length new) c.in-Ok-empty_slots.slots.items)) 1 c.len-4.result) owner
    (subst (λ (l : List Slot). IsInOrder (owner_of frames) l 1 c.len-4.result) back
    (subst (λ (k : ℕ). IsInOrder (owner_of frames) new 1 k) counted (filled_order frames new c.requires c.fill_all.ensures.filled)))).pool
