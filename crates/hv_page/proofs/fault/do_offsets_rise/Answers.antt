use Rattle.std.proofs.Common.{◌&&◌, refl, ◌∙◌, arith}
use Rattle.std.specs.Prelude.{nat_lt}
use Rattle.std.proofs.lemmas.Bool.{ltb-true, and_parts}
use Rattle.hv_page.proofs.Points.{IsAt, offset_goes_on, offsets_end}
use Rattle.hv_page.proofs.fault.do_offsets_rise.Goals as goal

pub loop-slot-init : goal.loop-slot-init
loop-slot-init c = λ _. refl

pub loop-slot-preserved : goal.loop-slot-preserved
loop-slot-preserved c = λ yes.
    let before = c.place_of.result in
    let from = c.place_of-from.result in
    let used = c.args.used in
    let parts = and_parts c.loop-slot.rise (nat_lt before from && nat_lt from used) yes in
    let tests = and_parts (nat_lt before from) (nat_lt from used) parts.1 in
    let at : IsAt c.args.page.now c.loop-slot.slot c.args.count before from used = record {
      above = omega (arith, c.loop-slot.auto.slot);
      below = c.loop-slot-test.true;
      before-is = c.place_of.ensures;
      from-is = c.place_of-from.ensures;
      used-is = c.requires.ends;
    } in
    c.loop-slot.invariant parts.0
    ∙ offset_goes_on c.args.page.now c.loop-slot.slot c.args.count before from used at (ltb-true before from tests.0) (ltb-true from used tests.1)

pub returns : goal.returns
returns c = λ yes. c.loop-slot.invariant yes ∙ offsets_end c.args.page.now c.loop-slot.slot c.args.count c.loop-slot-test.false
