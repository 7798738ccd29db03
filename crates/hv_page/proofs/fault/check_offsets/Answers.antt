use Rattle.std.proofs.Common.{◌≡◌, ◌<◌, ◌+◌, ◌-◌, Some, arith, inl, inr, sym, ap, ◌∙◌}
use Rattle.hv_page.specs.Fault.{short_at, entry_from}
use Rattle.hv_page.proofs.Points.{IsAt, first_stops, first_fits, offset_stops, offset_goes_on, offsets_end}
use Rattle.hv_page.proofs.fault.check_offsets.Goals as goal
use Rattle.hv_page.proofs.fault.check_offsets.Goals.{then-before-offset_at-via-then-before-offset_at, then-before-offset_at-via-else-before-offset_at+then-used-before, then-from-before-via-then-from-before, then-from-before-via-else-from-before+then-used-from}

pub returns-then-before-offset_at : goal.returns-then-before-offset_at
returns-then-before-offset_at c =
    first_stops c.args.page.now c.args.count c.short_at-before.result c.args.used c.requires.some c.short_at-before.ensures c.requires.ends c.requires.counted
    (elim c.then-before-offset_at.branch [
      | then-before-offset_at-via-then-before-offset_at w ↦ inl (λ same. omega arith)
      | then-before-offset_at-via-else-before-offset_at+then-used-before w ↦ inr (omega arith)
    ])

pub returns-then-do_offsets_rise : goal.returns-then-do_offsets_rise
returns-then-do_offsets_rise c =
    first_fits c.args.page.now c.args.count c.short_at-before.result c.args.used c.requires.some c.short_at-before.ensures c.requires.ends c.requires.counted (omega arith) (omega arith)
    ∙ c.do_offsets_rise.ensures c.if-do_offsets_rise.true

pub loop-slot-init : goal.loop-slot-init
loop-slot-init c = record {
  same = first_fits c.args.page.now c.args.count c.short_at-before.result c.args.used c.requires.some c.short_at-before.ensures c.requires.ends c.requires.counted (omega arith) (omega arith);
  last = c.short_at-before.ensures;
}

pub returns-then-from-before : goal.returns-then-from-before
returns-then-from-before c =
    let slot = c.loop-slot.slot in
    let above : 0 < slot = omega arith in
    let at : IsAt c.args.page.now slot c.args.count c.loop-slot.before c.short_at-from.result c.args.used = record {
      above = above;
      below = c.loop-slot-test.true;
      before-is = c.loop-slot.invariant.last;
      from-is = c.short_at-from.ensures ∙ ap (short_at c.args.page.now) c.offset_at-at.ensures;
      used-is = c.requires.ends;
    } in
    c.loop-slot.invariant.same
    ∙ offset_stops c.args.page.now slot c.args.count c.loop-slot.before c.short_at-from.result c.args.used at
    (elim c.then-from-before.branch [
      | then-from-before-via-then-from-before w ↦ inl (omega arith)
      | then-from-before-via-else-from-before+then-used-from w ↦ inr (omega arith)
    ])
    ∙ ap Some (sym c.offset_at-at.ensures)

pub loop-slot-preserved : goal.loop-slot-preserved
loop-slot-preserved c =
    let slot = c.loop-slot.slot in
    let above : 0 < slot = omega arith in
    let same : slot ≡ slot + 1 - 1 = omega arith in
    let from-is = c.short_at-from.ensures ∙ ap (short_at c.args.page.now) c.offset_at-at.ensures in
    let at : IsAt c.args.page.now slot c.args.count c.loop-slot.before c.short_at-from.result c.args.used = record {
      above = above;
      below = c.loop-slot-test.true;
      before-is = c.loop-slot.invariant.last;
      from-is = from-is;
      used-is = c.requires.ends;
    } in
    record {
      same = c.loop-slot.invariant.same ∙ offset_goes_on c.args.page.now slot c.args.count c.loop-slot.before c.short_at-from.result c.args.used at c.if-from-before.false c.if-used-from.false;
      last = from-is ∙ ap (entry_from c.args.page.now) same;
    }

pub returns : goal.returns
returns c = c.loop-slot.invariant.same ∙ offsets_end c.args.page.now c.loop-slot.slot c.args.count (omega arith)
