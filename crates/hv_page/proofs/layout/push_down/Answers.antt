use Rattle.std.proofs.Common.{◌≡◌, ◌+◌, ◌-◌, ◌*◌, length, drop, refl, ◌∙◌, arith}
use Rattle.hv_page.specs.Layout.{entries_from}
use Rattle.hv_page.proofs.Making.{read_of, used_more}
use Rattle.hv_page.proofs.MovingDown.{down_4, down_6, places_down, pushed_down}
use Rattle.hv_page.proofs.layout.push_down.Goals as goal

pub returns-then-from-entry-gt-PAGE_BYTES-clause-full :
    goal.returns-then-from-entry-gt-PAGE_BYTES-clause-full
returns-then-from-entry-gt-PAGE_BYTES-clause-full c kind number entries begun e =
    let r = read_of kind number (drop 2 c.args.window.now) entries begun in
    omega (arith, used_more entries c.args.entry.now, c.short_at-used.ensures ∙ down_6 c.args.window.now ∙ r.used)

pub lower_offsets-requires : goal.lower_offsets-requires
lower_offsets-requires c =
    let b = c.requires.begun in
    let r = read_of b.kind b.number (drop 2 c.args.window.now) b.entries b.begun in
    let count = c.short_at-count.ensures ∙ down_4 c.args.window.now ∙ r.counted in
    let long : length c.copy_within.new.self ≡ 4098 = c.copy_within.ensures.len ∙ c.requires.two in
    let k = 16 + 2 * c.short_at-count.result + 2 - 16 in
    let places = places_down b.kind b.number b.entries c.args.window.now c.copy_within.new.self k b.begun c.copy_within.ensures.after (omega (arith, count)) in
    (entries_from (length b.entries), b.entries, places, r.room, omega (arith, r.room, count, long))

pub returns-clause-pushed : goal.returns-clause-pushed
returns-clause-pushed c kind number entries begun e =
    let r = read_of kind number (drop 2 c.args.window.now) entries begun in
    let count = c.short_at-count.ensures ∙ down_4 c.args.window.now ∙ r.counted in
    let used = c.short_at-used.ensures ∙ down_6 c.args.window.now ∙ r.used in
    let at = 16 + 2 * c.short_at-count.result in
    let long : length c.copy_within.new.self ≡ 4098 = c.copy_within.ensures.len ∙ c.requires.two in
    let places = places_down kind number entries c.args.window.now c.copy_within.new.self (at + 2 - 16) begun c.copy_within.ensures.after (omega (arith, count)) in
    pushed_down kind number entries c.args.window.now c.args.entry.now c.copy_within.new.self c.lower_offsets.new.bytes c.copy_from_slice.new.self c.copy_from_slice-2.new.self c.copy_from_slice-3.new.self c.copy_from_slice-4.new.self
    at (c.short_at-used.result + 2) _ _ _ c.short_at-count.result c.short_at-used.result
    (c.copy_from_slice.ensures.after ∙ c.to_be_bytes.ensures)
    c.copy_from_slice-2.ensures.after
    (c.copy_from_slice-3.ensures.after ∙ c.to_be_bytes-2.ensures)
    (c.copy_from_slice-4.ensures.after ∙ c.to_be_bytes-3.ensures)
    begun (omega arith) (omega arith) (omega arith)
    c.copy_within.ensures.after
    (omega (arith, c.lower_offsets.auto.bytes, count, r.room, long))
    (c.lower_offsets.ensures (entries_from (length entries)) entries places r.room)
    refl refl
    (omega arith) (omega arith) (omega arith)
