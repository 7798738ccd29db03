use Rattle.std.proofs.Common.{◌≡◌, ◌+◌, ◌-◌, ◌∙◌, List, set, arith}
use Rattle.std.specs.List.{count_by}
use Rattle.std.proofs.lemmas.List.{length-set}
use Rattle.std.proofs.lemmas.List.Sums.{count_by-le-length}
use Rattle.hv_pool.specs.declared.slot.Slot.{Slot}
use Rattle.hv_pool.specs.Slots.{is_open}
use Rattle.hv_pool.proofs.Made.{forget_more, forget_counted, forget_fewer, forget_done}
use Rattle.hv_pool.proofs.pool.forget_all.Goals as goal

-- at most as many frames as places may be taken
pub overflow_add-left : goal.overflow_add-left
overflow_add-left c =
    let new : List Slot = set c.loop-n.slots c.in-Some.n c.forget_at.new.slot in
    let counted : c.loop-n.left - c.openings_of-before.result + c.openings_of-after.result ≡ count_by is_open new = forget_counted c.loop-n.slots c.in-Some.n c.loop-n.left c.openings_of-before.result c.openings_of-after.result _ _ c.forget_at.new.slot c.in-Some.ensures.found.0 c.loop-n.invariant.counted c.openings_of-before.ensures c.openings_of-after.ensures in
    omega (arith, counted, count_by-le-length is_open new, length-set c.loop-n.slots c.in-Some.n c.forget_at.new.slot, c.loop-n.invariant.short, c.requires.short)

pub loop-n-preserved : goal.loop-n-preserved
loop-n-preserved c =
    let n = c.in-Some.n in
    let inside = c.in-Some.ensures.found.0 in
    let inv = c.loop-n.invariant in
    record {
      same = forget_more c.args.who c.args.slots.now c.loop-n.slots n c.index-slots-n-in-Some.result c.forget_at.new.slot c.requires.who inside (inv.ordered.narrow n c.index-slots-n-in-Some.result inside) c.forget_at.ensures inv.same;
      counted = forget_counted c.loop-n.slots n c.loop-n.left c.openings_of-before.result c.openings_of-after.result _ _ c.forget_at.new.slot inside inv.counted c.openings_of-before.ensures c.openings_of-after.ensures;
      ordered = c.reorder.ensures.ordered;
      long = c.reorder.ensures.length ∙ inv.long;
      short = length-set c.loop-n.slots n c.forget_at.new.slot ∙ inv.short;
    }

-- one wait of the session is less
pub loop-n-smaller : goal.loop-n-smaller
loop-n-smaller c = forget_fewer c.args.who c.loop-n.slots c.in-Some.n c.index-slots-n.result c.index-slots-n-in-Some.result c.forget_at.new.slot c.requires.who c.in-Some.ensures.found.0 (c.in-Some.ensures.found.1 c.index-slots-n.result) c.forget_at.ensures

pub returns-clause-slots : goal.returns-clause-slots
returns-clause-slots c = forget_done c.args.who c.args.slots.now c.loop-n.slots c.requires.who c.in_default.ensures.none c.loop-n.invariant.ordered.narrow c.loop-n.invariant.same
