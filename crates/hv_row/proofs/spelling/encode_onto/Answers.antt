use Rattle.std.proofs.Common.{rules, ◌≡◌, ◌<◌, ◌≤◌, ◌++◌, ◌+◌, ap, ◌∙◌, sym, length, get_or, drop, append_assoc, List, ℕ}
use Rattle.hv_row.specs.Value.{type_of, value_bytes}
use Rattle.hv_row.specs.Row.{row_bytes}
use Rattle.std.proofs.lemmas.List.{append-nil}
use Rattle.hv_row.proofs.Steps.{next_value, row_done, take_kept}
use Rattle.hv_row.proofs.spelling.encode_onto.Goals as goal

pub put_value-requires : goal.put_value-requires
put_value-requires c =
    let row = c.args.row.now in
    let i = c.loop-value.value-index in
    let v = c.value-item.result in
    let lt : i < length row = rw c.as_slice-value-items.ensures at c.loop-value-test.true in
    let is : v ≡ get_or row i v = rw c.as_slice-value-items.ensures at c.value-item.is in
    (next_value c.args.schema.now row i v lt is c.loop-value.invariant.fits).fits

pub loop-value-preserved : goal.loop-value-preserved
loop-value-preserved c =
    let row = c.args.row.now in
    let i = c.loop-value.value-index in
    let v = c.value-item.result in
    let lt : i < length row = rw c.as_slice-value-items.ensures at c.loop-value-test.true in
    let is : v ≡ get_or row i v = rw c.as_slice-value-items.ensures at c.value-item.is in
    let next = next_value c.args.schema.now row i v lt is c.loop-value.invariant.fits in
    let others = row_bytes (drop (i + 1) c.args.schema.now) (drop (i + 1) row) in
    let put : c.put_value.new.out.items ≡ c.loop-value.out.items ++ value_bytes (type_of v) v = search rules in
    record {
      fits = next.others;
      spelt = ap (λ (x : List ℕ). x ++ others) put ∙ append_assoc c.loop-value.out.items (value_bytes (type_of v) v) others ∙ ap (λ (x : List ℕ). c.loop-value.out.items ++ x) (sym next.bytes) ∙ c.loop-value.invariant.spelt;
      kept = rw put (take_kept c.loop-value.out.items (value_bytes (type_of v) v) c.args.out.now.items c.len-start.result c.loop-value.invariant.start c.loop-value.invariant.kept);
      start = c.loop-value.invariant.start;
    }

pub returns-clause-spelt : goal.returns-clause-spelt
returns-clause-spelt c =
    let all : length c.args.row.now ≤ c.loop-value.value-index = rw c.as_slice-value-items.ensures at c.loop-value-test.false in
    let out = c.loop-value.out.items in
    let short : length (row_bytes c.args.schema.now c.args.row.now) ≤ 2000 = search rules in
    (sym (append-nil out) ∙ ap (λ (x : List ℕ). out ++ x) (sym (row_done c.args.schema.now c.args.row.now c.loop-value.value-index all)) ∙ c.loop-value.invariant.spelt, short)
