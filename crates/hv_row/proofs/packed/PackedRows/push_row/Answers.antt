use Rattle.std.proofs.Common.{rules, ◌≡◌, ◌≤◌, ◌∷◌, ◌++◌, [], length}
use Rattle.hv_row.specs.Row.{row_bytes}
use Rattle.hv_row.proofs.Cutting.{packed_more, shown_row, fits_shown}
use Rattle.hv_row.proofs.packed.PackedRows.push_row.Goals as goal

pub invariant_of-self-2 : goal.invariant_of-self-2
invariant_of-self-2 c =
    let before = c.self.inside in
    let entry = row_bytes before.schema c.args.row.now in
    let bytes : c.end_row.new.bytes.items ≡ before.bytes.items ++ entry = search rules in
    let ends : c.end_row.new.ends.items ≡ before.ends.items ++ length c.end_row.new.bytes.items ∷ [] = search rules in
    packed_more before.schema before.bytes.items before.ends.items entry _ _ c.self.invariant (fits_shown before.schema before.bytes.items before.ends.items c.args.row.now _ c.self.view_is c.requires) bytes ends

pub returns-clause-pushed : goal.returns-clause-pushed
returns-clause-pushed c =
    let before = c.self.inside in
    let entry = row_bytes before.schema c.args.row.now in
    let bytes : c.end_row.new.bytes.items ≡ before.bytes.items ++ entry = search rules in
    let ends : c.end_row.new.ends.items ≡ before.ends.items ++ length c.end_row.new.bytes.items ∷ [] = search rules in
    let short : length (row_bytes c.args.self.now.schema c.args.row.now) ≤ 2000 = search rules in
    (shown_row before.schema before.bytes.items before.ends.items c.args.row.now _ _ _ c.self.invariant c.self.view_is c.requires bytes ends, short)
