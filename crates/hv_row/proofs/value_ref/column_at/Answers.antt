use Rattle.std.proofs.Common.{◌≡◌, ◌<◌, get_or, sym, ap, ◌∙◌, arith}
use Rattle.std.proofs.lemmas.List.{get_or-take, length-take}
use Rattle.std.proofs.lemmas.Option.{slice_get_past}
use Rattle.hv_row.proofs.Spelled.{length_spelled, next_value_at, lent_at, lent_fits}
use Rattle.hv_row.proofs.value_ref.column_at.Goals as goal

pub returns-then-column-columns-clause-value : goal.returns-then-column-columns-clause-value
returns-then-column-columns-clause-value c =
    sym (slice_get_past _ c.args.column (omega (arith, c.if-column-columns.true, length_spelled c.args.columns.now c.args.bytes.now)))

pub loop-before-preserved : goal.loop-before-preserved
loop-before-preserved c =
    let cs = c.args.columns.now in
    let i = c.loop-before.before-index in
    let column = c.before-item.result in
    let lt : i < c.args.column = omega (arith, c.loop-before-test.true, length-take c.args.column cs) in
    let is : column ≡ get_or cs i column = c.before-item.is ∙ get_or-take c.args.column cs i column lt in
    let next = next_value_at cs c.args.bytes.now i c.loop-before.at column (omega (arith, lt, c.if-column-columns.false)) is c.loop-before.invariant in
    rw c.value_size-at.ensures.same next.next

pub returns-clause-value : goal.returns-clause-value
returns-clause-value c =
    let cs = c.args.columns.now in
    let n = c.args.column in
    let last : c.loop-before.before-index ≡ n = omega (arith, c.if-column-columns.false, c.loop-before-test.false, c.loop-before.auto.before-index-end, length-take n cs) in
    lent_at cs c.args.bytes.now n c.loop-before.at _ _ c.first_value.result (next_value_at cs c.args.bytes.now n c.loop-before.at (get_or cs n c.index-columns-column.result) (omega (arith, c.if-column-columns.false)) (ap (get_or cs n) c.index-columns-column.is) (rw last at c.loop-before.invariant)) c.first_value.ensures

pub returns-clause-fits : goal.returns-clause-fits
returns-clause-fits c =
    let cs = c.args.columns.now in
    let n = c.args.column in
    let last : c.loop-before.before-index ≡ n = omega (arith, c.if-column-columns.false, c.loop-before-test.false, c.loop-before.auto.before-index-end, length-take n cs) in
    lent_fits cs c.args.bytes.now n c.loop-before.at _ _ c.first_value.result (next_value_at cs c.args.bytes.now n c.loop-before.at (get_or cs n c.index-columns-column.result) (omega (arith, c.if-column-columns.false)) (ap (get_or cs n) c.index-columns-column.is) (rw last at c.loop-before.invariant)) c.first_value.ensures
