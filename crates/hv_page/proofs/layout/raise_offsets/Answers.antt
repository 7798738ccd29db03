use Rattle.std.proofs.Common.{ℕ, ◌+◌, ◌<◌, length, sym, ap, ◌∙◌, arith}
use Rattle.std.specs.Int.{w16, to_be_bytes}
use Rattle.hv_page.proofs.MakingOffsets.{raised_none, raised_all, length-raised, next_of, read_next, write_next}
use Rattle.hv_page.proofs.layout.raise_offsets.Goals as goal

pub loop-slot-init : goal.loop-slot-init
loop-slot-init c from entries same fit = same ∙ sym (raised_none from entries)

pub overflow_add-raised : goal.overflow_add-raised
overflow_add-raised c =
    let from = c.requires.0 in
    let entries = c.requires.1 in
    let now = c.loop-slot.invariant from entries c.requires.2 c.requires.3 in
    let within : c.loop-slot.slot < length entries = omega (arith, ap length now, length-raised c.loop-slot.slot from entries) in
    let next = next_of c.loop-slot.slot from entries within in
    omega (arith, c.short_at.ensures ∙ read_next c.loop-slot.slot from entries c.loop-slot.bytes now within c.requires.3, next.small)

pub loop-slot-preserved : goal.loop-slot-preserved
loop-slot-preserved c from entries same fit =
    let now = c.loop-slot.invariant from entries same fit in
    let within : c.loop-slot.slot < length entries = omega (arith, ap length now, length-raised c.loop-slot.slot from entries) in
    let read = c.short_at.ensures ∙ read_next c.loop-slot.slot from entries c.loop-slot.bytes now within fit in
    write_next c.loop-slot.slot from entries c.loop-slot.bytes c.copy_from_slice.new.self _ now within (c.copy_from_slice.ensures.after ∙ c.to_be_bytes.ensures ∙ ap (λ (n : ℕ). to_be_bytes w16 (n + 2)) read) (omega arith)

pub returns : goal.returns
returns c from entries same fit =
    let now = c.loop-slot.invariant from entries same fit in
    now ∙ raised_all c.loop-slot.slot from entries (omega (arith, ap length now, length-raised c.loop-slot.slot from entries))
