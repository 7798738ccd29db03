use Rattle.std.proofs.Common.{◌≡◌, List, sym, subst, arith}
use Rattle.std.specs.List.{count_by}
use Rattle.hv_pool.specs.declared.slot.Slot.{Slot}
use Rattle.hv_pool.specs.declared.seen.Seen.TheVariants as seen
use Rattle.hv_pool.specs.Slots.{Pooled, seen_at, under}
use Rattle.hv_pool.proofs.Places.{look_found, seen_none}
use Rattle.hv_pool.specs.Made.{owner_of}
use Rattle.hv_pool.proofs.pool.Pool.look.Goals as goal

pub returns-in-Reading-clause-told : goal.returns-in-Reading-clause-told
returns-in-Reading-clause-told c =
    sym (subst (λ (p : Pooled). seen_at p c.args.key.now ≡ seen.Reading) c.self.view_is
    ((look_found _ _ c.in-Some.n c.index.result.now c.args.key.now c.self.invariant.0.pool c.as_slice.ensures.value c.in-Some.ensures.found c.index.ensures).0 c.in-Reading.who c.in-Reading.is))

pub returns-in-InHand-clause-told : goal.returns-in-InHand-clause-told
returns-in-InHand-clause-told c =
    sym (subst (λ (p : Pooled). seen_at p c.args.key.now ≡ seen.Busy) c.self.view_is
    ((look_found _ _ c.in-Some.n c.index.result.now c.args.key.now c.self.invariant.0.pool c.as_slice.ensures.value c.in-Some.ensures.found c.index.ensures).1 c.in-InHand.who c.in-InHand.is))

pub returns-in-None-clause-told : goal.returns-in-None-clause-told
returns-in-None-clause-told c =
    let old : Pooled = record { owner = owner_of c.self.inside.mark.value.items; slots = c.self.inside.slots.items; came = c.self.inside.came } in
    let none = subst (λ (l : List Slot). count_by (under c.args.key.now) l ≡ 0) c.as_slice.ensures.value c.in-None.ensures.none in
    sym (subst (λ (p : Pooled). seen_at p c.args.key.now ≡ seen.Start) c.self.view_is ((seen_none old c.args.key.now none).0 (omega (arith, c.self.invariant.0.counted, c.if-self-gt0.true))))

pub returns-in-None-2-clause-told : goal.returns-in-None-2-clause-told
returns-in-None-2-clause-told c =
    let old : Pooled = record { owner = owner_of c.self.inside.mark.value.items; slots = c.self.inside.slots.items; came = c.self.inside.came } in
    let none = subst (λ (l : List Slot). count_by (under c.args.key.now) l ≡ 0) c.as_slice.ensures.value c.in-None.ensures.none in
    sym (subst (λ (p : Pooled). seen_at p c.args.key.now ≡ seen.Full) c.self.view_is ((seen_none old c.args.key.now none).1 (omega (arith, c.self.invariant.0.counted, c.if-self-gt0.false))))
