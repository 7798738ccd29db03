use Rattle.std.proofs.Common.{arith}
use Rattle.hv_world.proofs.ReadRows.{adds_slot}
use Rattle.hv_world.proofs.pages.push_rows.Goals as goal

-- the row of this slot goes behind those of the slots before it
pub loop-slot-preserved : goal.loop-slot-preserved
loop-slot-preserved c =
    adds_slot c.args.schema.now c.args.view.now c.loop-slot.slot c.in_ok-row_at.field-0 c.args.out.now c.loop-slot.out c.push.new.self (omega (arith, c.count-slot-end.ensures)) c.loop-slot.invariant c.in_ok-row_at.ensures.0 c.in_ok-row_at.ensures.1
    c.in_ok-push.ensures.ok
