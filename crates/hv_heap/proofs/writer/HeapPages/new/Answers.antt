use Rattle.std.proofs.Common.{◌≡◌, refl, sym, ap, length, rules, arith}
use Rattle.hv_heap.proofs.Begun.{begun_entries, begun_as_read}
use Rattle.hv_heap.proofs.writer.HeapPages.new.Goals as goal

pub invariant_of-result : goal.invariant_of-result
invariant_of-result c =
    let zeros : length c.in_ok-new.field-0.value ≡ 8178 = search rules in
    let long : length c.begin_top.new.room ≡ 8178 = search rules in
    (begun_as_read c.begin_top.ensures, sym (ap length (begun_entries c.begin_top.ensures)), refl, long, omega arith, zeros, omega arith)

pub returns : goal.returns
returns c =
    let copied : c.in_ok-copy.field-0 ≡ c.args.schema.now = search rules in
    (copied, refl, refl, begun_entries c.begin_top.ensures)
