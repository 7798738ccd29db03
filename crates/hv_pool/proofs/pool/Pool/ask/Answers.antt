use Rattle.std.proofs.Common.{◌≡◌, ℕ, ◌-◌, ◌<◌, cond, List, length, drop, get_or, set, sym, ap, ◌∙◌, subst, arith, true}
use Rattle.std.specs.List.{count_by}
use Rattle.std.proofs.lemmas.List.{length-set, take_at}
use Rattle.hv_pool.specs.declared.slot.Slot.{Slot}
use Rattle.hv_pool.specs.declared.seen.Seen.TheVariants as seen
use Rattle.hv_pool.specs.declared.seen.Ask.TheVariants as ask
use Rattle.hv_pool.specs.Slots.{Pooled, IsPool, seen_at, under, is_open}
use Rattle.hv_pool.specs.Moves.{Asks, answer_of}
use Rattle.hv_pool.specs.Shape.{IsInOrder}
use Rattle.hv_pool.specs.Index.{IsIndexed}
use Rattle.hv_pool.specs.Order.{IsOrdered}
use Rattle.hv_pool.specs.Made.{owner_of}
use Rattle.hv_pool.proofs.Places.{no_slot, get_or_any, take_found, start_found, seen_none, read_twice, some_here}
use Rattle.hv_pool.proofs.Ordered.{ordered_back}
use Rattle.hv_pool.proofs.Indexed.{take_index}
use Rattle.hv_pool.proofs.pool.Pool.ask.Goals as goal

pub invariant_of-self : goal.invariant_of-self
invariant_of-self c =
    let slots : List Slot = c.self.inside.slots.items in
    let owner = owner_of c.self.inside.mark.value.items in
    let n = c.in-Some.n in
    let s : Slot = c.index_mut.result.now in
    let v : Slot = c.take_standing-taken.new.slot in
    let t = take_found owner slots _ c.self.inside.came c.self.inside.openings n c.args.key.now c.args.who s v c.take_standing-taken.result c.requires c.self.invariant.0 c.as_slice.ensures.value c.in-Some.ensures.found c.index_mut.ensures.value c.take_standing-taken.ensures in
    let less : cond (is_open s) 1 0 ≡ c.openings_of.result = ap {B = ℕ} (λ z. cond (is_open z) 1 0) (read_twice slots n s c.index.result.now t.1 c.index_mut.ensures.value c.index.ensures) ∙ sym c.openings_of.ensures in (
      subst (λ (k : ℕ). IsInOrder owner (set slots n v) c.self.inside.came (c.self.inside.openings - k)) less t.0.0,
      record { none = c.self.invariant.1.none; wide = omega (arith, c.self.invariant.1.wide, length-set slots n v) },
      take_index c.self.inside.links.items slots n c.args.key.now c.args.who s v c.take_standing-taken.result c.self.invariant.2 t.1 c.index_mut.ensures.value t.2 c.take_standing-taken.ensures,
      ordered_back c.self.inside.tree.items c.reorder.new.tree c.self.inside.tree.len (set slots n v) (c.reorder.ensures.length ∙ ap length c.as_mut_slice.ensures.value) c.self.inside.tree.ok.0
          (subst (λ (l : List Slot). IsOrdered c.reorder.new.tree l) c.as_slice-in-Some.ensures.value c.reorder.ensures.ordered),
    )

pub returns-in-Some : goal.returns-in-Some
returns-in-Some c =
    let t = take_found (owner_of c.self.inside.mark.value.items) c.self.inside.slots.items _ c.self.inside.came c.self.inside.openings c.in-Some.n c.args.key.now c.args.who c.index_mut.result.now c.take_standing-taken.new.slot c.take_standing-taken.result c.requires c.self.invariant.0 c.as_slice.ensures.value c.in-Some.ensures.found c.index_mut.ensures.value c.take_standing-taken.ensures in
    record {
      told = subst (λ (p : Pooled). answer_of c.take_standing-taken.result ≡ seen_at p c.args.key.now) c.self.view_is t.0.2;
      change = subst (λ (p : Pooled). Asks p c.args.key.now c.args.who c.take_standing-taken.result (record { owner = owner_of c.self.inside.mark.value.items; slots = set c.self.inside.slots.items c.in-Some.n c.take_standing-taken.new.slot; came = c.self.inside.came })) c.self.view_is t.0.1;
      pool = subst IsPool c.self.view_is c.self.invariant.0.pool;
    }

pub overflow_sub-self-in-Some-find_open : goal.overflow_sub-self-in-Some-find_open
overflow_sub-self-in-Some-find_open c =
    let slots : List Slot = c.self.inside.slots.items in
    let n = c.in-Some-find_open.n in
    let within = subst (λ (l : List Slot). n < length l) c.as_slice-3.ensures.value c.in-Some-find_open.ensures.found.0 in
    let d = get_or slots n no_slot in
    let opens : is_open d ≡ true = subst (λ (l : List Slot). is_open (get_or l n no_slot) ≡ true) c.as_slice-3.ensures.value (c.in-Some-find_open.ensures.found.1 no_slot).0 in
    omega (arith, c.self.invariant.0.counted, some_here slots n d is_open within (get_or_any slots n no_slot d within) opens)

pub invariant_of-self-in-Some-find_open : goal.invariant_of-self-in-Some-find_open
invariant_of-self-in-Some-find_open c =
    let slots : List Slot = c.self.inside.slots.items in
    let n = c.in-Some-find_open.n in
    let v : Slot = c.start_in-frame.new.slot in
    let links : List ℕ = c.reindex.new.links in
    let back = sym (take_at links (drop (length links) c.self.inside.links.items) c.self.inside.links.len (omega (arith, c.reindex.ensures.length, ap length c.as_mut_slice-in-Some-find_open.ensures.value, c.self.inside.links.ok.0))) in
    let t = start_found (owner_of c.self.inside.mark.value.items) slots _ _ c.self.inside.came c.self.inside.openings n c.args.key.now c.args.who c.index_mut-in-Some-find_open.result.now v c.start_in-frame.result c.requires c.self.invariant.0 c.as_slice.ensures.value c.in_default.ensures.none c.as_slice-3.ensures.value c.in-Some-find_open.ensures.found c.index_mut-in-Some-find_open.ensures.value c.start_in-frame.ensures.frame c.start_in-frame.ensures.started in (
      t.0,
      record { none = c.self.invariant.1.none; wide = omega (arith, c.self.invariant.1.wide, length-set slots n v) },
      subst (λ (l : List ℕ). IsIndexed l (set slots n v)) back
          (subst (λ (l : List Slot). IsIndexed links (set l n v)) c.as_slice-in-Some-find_open.ensures.value (c.reindex.ensures.indexed v (ap (λ (z : Slot). z.key) c.start_in-frame.ensures.started))),
      ordered_back c.self.inside.tree.items c.reorder-in-Some-find_open.new.tree c.self.inside.tree.len (set slots n v) (c.reorder-in-Some-find_open.ensures.length ∙ ap length c.as_mut_slice-in-Some-find_open-2.ensures.value) c.self.inside.tree.ok.0
          (subst (λ (l : List Slot). IsOrdered c.reorder-in-Some-find_open.new.tree l) c.as_slice-in-Some-find_open-2.ensures.value c.reorder-in-Some-find_open.ensures.ordered),
    )

pub returns-in-Some-find_open : goal.returns-in-Some-find_open
returns-in-Some-find_open c =
    let t = start_found (owner_of c.self.inside.mark.value.items) c.self.inside.slots.items _ _ c.self.inside.came c.self.inside.openings c.in-Some-find_open.n c.args.key.now c.args.who c.index_mut-in-Some-find_open.result.now c.start_in-frame.new.slot c.start_in-frame.result c.requires c.self.invariant.0 c.as_slice.ensures.value c.in_default.ensures.none c.as_slice-3.ensures.value c.in-Some-find_open.ensures.found c.index_mut-in-Some-find_open.ensures.value c.start_in-frame.ensures.frame c.start_in-frame.ensures.started in
    record {
      told = subst (λ (p : Pooled). seen.Start ≡ seen_at p c.args.key.now) c.self.view_is t.2;
      change = subst (λ (p : Pooled). Asks p c.args.key.now c.args.who (ask.Start c.start_in-frame.result) (record { owner = owner_of c.self.inside.mark.value.items; slots = set c.self.inside.slots.items c.in-Some-find_open.n c.start_in-frame.new.slot; came = c.self.inside.came })) c.self.view_is t.1;
      pool = subst IsPool c.self.view_is c.self.invariant.0.pool;
    }

pub returns-in-None-clause-told : goal.returns-in-None-clause-told
returns-in-None-clause-told c =
    let old : Pooled = record { owner = owner_of c.self.inside.mark.value.items; slots = c.self.inside.slots.items; came = c.self.inside.came } in
    let none = subst (λ (l : List Slot). count_by (under c.args.key.now) l ≡ 0) c.as_slice.ensures.value c.in_default.ensures.none in
    let shut = subst (λ (l : List Slot). count_by is_open l ≡ 0) c.as_slice-3.ensures.value c.in-None.ensures.none in
    subst (λ (p : Pooled). seen.Full ≡ seen_at p c.args.key.now) c.self.view_is (sym ((seen_none old c.args.key.now none).1 shut))
