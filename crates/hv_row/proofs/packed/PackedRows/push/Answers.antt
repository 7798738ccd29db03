use Rattle.std.proofs.Common.{rules, ◌≡◌, ◌∷◌, ◌++◌, [], length}
use Rattle.hv_row.proofs.Cutting.{packed_more, shown_more, spelling_shown}
use Rattle.hv_row.proofs.packed.PackedRows.push.Goals as goal

pub invariant_of-self-2 : goal.invariant_of-self-2
invariant_of-self-2 c =
    let before = c.self.inside in
    let bytes : c.end_row.new.bytes.items ≡ before.bytes.items ++ c.args.bytes.now = search rules in
    let ends : c.end_row.new.ends.items ≡ before.ends.items ++ length c.end_row.new.bytes.items ∷ [] = search rules in
    packed_more before.schema before.bytes.items before.ends.items c.args.bytes.now _ _ c.self.invariant (spelling_shown before.schema before.bytes.items before.ends.items c.args.bytes.now _ c.self.view_is c.requires) bytes ends

pub returns-clause-pushed : goal.returns-clause-pushed
returns-clause-pushed c =
    let before = c.self.inside in
    let bytes : c.end_row.new.bytes.items ≡ before.bytes.items ++ c.args.bytes.now = search rules in
    let ends : c.end_row.new.ends.items ≡ before.ends.items ++ length c.end_row.new.bytes.items ∷ [] = search rules in
    shown_more before.schema before.bytes.items before.ends.items c.args.bytes.now _ _ _ c.self.invariant c.self.view_is bytes ends
