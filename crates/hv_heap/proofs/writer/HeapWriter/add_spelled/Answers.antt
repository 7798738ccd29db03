use Rattle.std.proofs.Common.{◌≡◌, List, subst}
use Rattle.hv_row.specs.declared.value.Value.{Value}
use Rattle.hv_row.specs.Row.{row_bytes}
use Rattle.hv_row.specs.Packed.{row_spelled}
use Rattle.hv_row.proofs.Spelled.{spelling_bytes}
use Rattle.hv_heap.specs.Writer.{Packing, IsPlaced}
use Rattle.hv_heap.proofs.writer.HeapWriter.add_spelled.Goals as goal

pub returns : goal.returns
returns c =
    let before = c.args.self.now in
    let entry = c.args.entry.now in
    let placed : (row : List Value) → entry ≡ row_bytes before.schema row → IsPlaced before c.place.new.self row c.place.result =
    subst (λ (p : Packing). (row : List Value) → entry ≡ row_bytes p.schema row → IsPlaced p c.place.new.self row c.place.result) c.self.view_is c.place.ensures in
    placed (row_spelled before.schema entry) (spelling_bytes before.schema entry c.requires.spelling)
