use Rattle.std.proofs.Common.{◌≡◌, ℕ, None, sym, ap, subst, ◌∙◌}
use Rattle.hv_page.specs.Fault.{count_of, count_fault, used_fault, offsets_fault, IsReadable}
use Rattle.hv_page.proofs.Points.{orelse_parts}
use Rattle.hv_page.proofs.Whole.{readable}
use Rattle.hv_page.proofs.fault.check_layout.Goals as goal

pub returns-clause-readable : goal.returns-clause-readable
returns-clause-readable c =
    let page = c.args.page.now in
    let room = orelse_parts (count_fault page) (used_fault page) c.in_ok-check_room.ensures in
    let placed : offsets_fault page 0 (count_of page) ≡ None = ap (offsets_fault page 0) (sym c.short_at-count.ensures) ∙ c.in_ok-check_offsets.ensures in
    subst (λ (n : ℕ). IsReadable page n) (sym c.short_at-count.ensures) (readable page c.requires room.0 room.1 placed)
