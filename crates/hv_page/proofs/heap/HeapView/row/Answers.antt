use Rattle.std.proofs.Common.{◌≡◌, ◌<◌, ◌+◌, ℕ, List, [], length, get_or, arith, sym, ap, ◌∙◌}
use Rattle.hv_page.specs.Fault.{count_of, entry_at, entries_of}
use Rattle.hv_page.proofs.Reading.{entries_left_length, entries_left_at}
use Rattle.hv_page.proofs.heap.HeapView.row.Goals as goal

pub entry-requires-clause-below : goal.entry-requires-clause-below
entry-requires-clause-below c =
    let page = c.self.inside.page.now in
    let long : length (entries_of page) ≡ length c.args.self.now = ap length c.self.view_is in
    omega (arith, entries_left_length page 0 (count_of page), c.self.invariant.counted, c.requires)

pub returns : goal.returns
returns c =
    let page = c.self.inside.page.now in
    let long : length (entries_of page) ≡ length c.args.self.now = ap length c.self.view_is in
    let below : c.args.slot < count_of page = omega (arith, entries_left_length page 0 (count_of page), c.requires) in
    let same : 0 + c.args.slot ≡ c.args.slot = omega arith in
    c.entry.ensures
    ∙ ap (entry_at page) (sym same)
    ∙ sym (entries_left_at page 0 (count_of page) c.args.slot below)
    ∙ ap (λ (entries : List (List ℕ)). get_or entries c.args.slot []) c.self.view_is
