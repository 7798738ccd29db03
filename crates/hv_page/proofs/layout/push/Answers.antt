use Rattle.std.proofs.Common.{◌≡◌, ℕ, ◌+◌, ◌-◌, ◌*◌, ◌≤◌, length, take, drop, refl, ap, ◌∙◌, arith}
use borrow.Rule.Slice.PartMut.{put_mid}
use Rattle.hv_page.specs.Layout.{entries_from}
use Rattle.hv_page.proofs.MakingWrites.{below_put, length_put}
use Rattle.hv_page.proofs.Making.{read_of, used_more, moving, but_two, and_two, pushed}
use Rattle.hv_page.proofs.layout.push.Goals as goal

pub returns-then-from-entry-gt-PAGE_BYTES-clause-full :
    goal.returns-then-from-entry-gt-PAGE_BYTES-clause-full
returns-then-from-entry-gt-PAGE_BYTES-clause-full c kind number entries begun e =
    let r = read_of kind number c.args.page.now entries begun in
    omega (arith, used_more entries c.args.entry.now, c.short_at-used.ensures ∙ r.used)

pub slice_bounds-shift-end : goal.slice_bounds-shift-end
slice_bounds-shift-end c =
    let b = c.requires.begun in
    let r = read_of b.kind b.number c.args.page.now b.entries b.begun in
    let used = c.short_at-used.ensures ∙ r.used in
    omega arith

pub raise_offsets-requires : goal.raise_offsets-requires
raise_offsets-requires c =
    let b = c.requires.begun in
    let r = read_of b.kind b.number c.args.page.now b.entries b.begun in
    let count = c.short_at-count.ensures ∙ r.counted in
    let used = c.short_at-used.ensures ∙ r.used in
    let at = 16 + 2 * c.short_at-count.result in
    let within : at ≤ length c.args.page.now = omega (arith, r.long, r.room, count) in
    let size : 16 + 2 * c.short_at-count.result - 16 ≡ 2 * length b.entries = omega (arith, count) in
    let below = below_put c.args.page.now c.shift.new.bytes at (c.short_at-used.result + 2 - at) (at - 16) (omega arith) within in
    (entries_from (length b.entries), b.entries, below ∙ ap (λ (k : ℕ). take k (drop 16 c.args.page.now)) size ∙ r.places, r.room)

pub slice_bounds-copy_from_slice-end-3 : goal.slice_bounds-copy_from_slice-end-3
slice_bounds-copy_from_slice-end-3 c =
    let b = c.requires.begun in
    let r = read_of b.kind b.number c.args.page.now b.entries b.begun in
    let count = c.short_at-count.ensures ∙ r.counted in
    let used = c.short_at-used.ensures ∙ r.used in
    let at = 16 + 2 * c.short_at-count.result in
    let l₁ = length_put c.args.page.now c.shift.new.bytes at (c.short_at-used.result + 2 - at) (omega arith) (omega arith) in
    let page₁ = put_mid at (c.short_at-used.result + 2 - at) c.args.page.now c.shift.new.bytes in
    let l₂ = length_put page₁ c.raise_offsets.new.bytes 16 (at - 16) (omega arith) (omega arith) in
    let page₂ = put_mid 16 (at - 16) page₁ c.raise_offsets.new.bytes in
    let l₃ = length_put page₂ c.copy_from_slice.new.self at (at + 2 - at) (omega arith) (omega arith) in
    omega (arith, l₁, l₂, l₃)

pub returns-clause-pushed : goal.returns-clause-pushed
returns-clause-pushed c kind number entries begun e =
    let r = read_of kind number c.args.page.now entries begun in
    let count = c.short_at-count.ensures ∙ r.counted in
    let used = c.short_at-used.ensures ∙ r.used in
    let at = 16 + 2 * c.short_at-count.result in
    let to = c.short_at-used.result + 2 in
    let within : at ≤ length c.args.page.now = omega (arith, r.long, r.room, count) in
    let part = moving kind number entries c.args.page.now at (to - at) begun (omega arith) (omega arith) (omega arith) in
    let size : at - 16 ≡ 2 * length entries = omega (arith, count) in
    let below = below_put c.args.page.now c.shift.new.bytes at (to - at) (at - 16) (omega arith) within ∙ ap (λ (k : ℕ). take k (drop 16 c.args.page.now)) size ∙ r.places in
    pushed kind number entries c.args.page.now c.args.entry.now c.shift.new.bytes c.raise_offsets.new.bytes c.copy_from_slice.new.self c.copy_from_slice-2.new.self c.copy_from_slice-3.new.self c.copy_from_slice-4.new.self
    at to _ _ _ _ c.short_at-count.result c.short_at-used.result
    (c.copy_from_slice.ensures.after ∙ c.to_be_bytes.ensures)
    c.copy_from_slice-2.ensures.after
    (c.copy_from_slice-3.ensures.after ∙ c.to_be_bytes-2.ensures)
    (c.copy_from_slice-4.ensures.after ∙ c.to_be_bytes-3.ensures)
    begun (omega arith) (omega arith) (omega arith)
    (omega (arith, c.shift.auto.bytes, and_two entries _ part))
    (c.shift.ensures ∙ but_two entries _ part)
    (c.raise_offsets.ensures (entries_from (length entries)) entries below r.room)
    refl refl
    (omega arith) (omega arith) (omega arith) (omega arith)
