use Rattle.std.proofs.Common.{ℕ, ◌+◌, ◌<◌, length, ap, ◌∙◌, arith}
use Rattle.std.specs.Int.{w16, to_be_bytes}
use Rattle.std.proofs.lemmas.List.{length-drop}
use Rattle.hv_page.proofs.MakingOffsets.{length-offsets}
use Rattle.hv_page.proofs.Lowering.{lowered_none, next_small, read_lower, write_lower, lowered_all}
use Rattle.hv_page.proofs.layout.lower_offsets.Goals as goal

pub loop-slot-init : goal.loop-slot-init
loop-slot-init c from entries same fit = lowered_none from entries c.args.bytes.now same c.requires.4

pub overflow_add-raised : goal.overflow_add-raised
overflow_add-raised c =
    let from = c.requires.0 in
    let entries = c.requires.1 in
    let now = c.loop-slot.invariant from entries c.requires.2 c.requires.3 in
    let within : c.loop-slot.slot < length entries = omega (arith, ap length c.requires.2, length-drop 2 c.args.bytes.now, length-offsets from entries) in
    omega (arith, c.short_at.ensures ∙ read_lower c.loop-slot.slot from entries c.loop-slot.bytes now within c.requires.3, next_small c.loop-slot.slot from entries)

pub loop-slot-preserved : goal.loop-slot-preserved
loop-slot-preserved c from entries same fit =
    let now = c.loop-slot.invariant from entries same fit in
    let within : c.loop-slot.slot < length entries = omega (arith, ap length same, length-drop 2 c.args.bytes.now, length-offsets from entries) in
    let read = c.short_at.ensures ∙ read_lower c.loop-slot.slot from entries c.loop-slot.bytes now within fit in
    write_lower c.loop-slot.slot from entries c.loop-slot.bytes c.copy_from_slice.new.self _ now within (c.copy_from_slice.ensures.after ∙ c.to_be_bytes.ensures ∙ ap (λ (n : ℕ). to_be_bytes w16 (n + 2)) read) (omega arith)

pub returns : goal.returns
returns c from entries same fit =
    let now = c.loop-slot.invariant from entries same fit in
    lowered_all c.loop-slot.slot from entries c.loop-slot.bytes now (omega (arith, ap length same, length-drop 2 c.args.bytes.now, length-offsets from entries, c.requires.4))
