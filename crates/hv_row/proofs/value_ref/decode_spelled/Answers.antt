use Rattle.std.proofs.Common.{◌≡◌, ◌≤◌, ◌∷◌, ◌++◌, [], length, sym, subst, ◌∙◌, ap}
use Rattle.hv_row.specs.Row.{RowFits, row_bytes}
use Rattle.hv_row.specs.Packed.{value_spelled}
use Rattle.hv_row.proofs.Steps.{column_at}
use Rattle.hv_row.proofs.Spelled.{left, next_value_at, read_next, read_whole, spelling_fits, spelling_bytes}
use Rattle.hv_row.proofs.value_ref.decode_spelled.Goals as goal

pub loop-column-preserved : goal.loop-column-preserved
loop-column-preserved c =
    let cs = c.args.schema.now in
    let bytes = c.args.bytes.now in
    let i = c.loop-column.column-index in
    let at = c.loop-column.at in
    let column = c.column-item.result in
    let rest = left bytes at in
    let place = column_at _ cs i column c.columns-columns.ensures.same c.loop-column-test.true c.column-item.is in
    let next = next_value_at cs bytes i at column place.0 place.1 c.loop-column.invariant.behind in
    let value : c.in_ok-to_value.field-0 ≡ value_spelled column.kind rest = c.in_ok-to_value.ensures ∙ c.first_value.ensures in
    let pushed : c.push.new.self ≡ c.loop-column.row ++ value_spelled column.kind rest ∷ [] = c.in_ok-push.ensures.ok ∙ ap (λ x. c.loop-column.row ++ x ∷ []) value in
    rw (pushed, c.value_size.ensures.same) (read_next cs bytes i at column.kind rest c.loop-column.row next c.loop-column.invariant)

pub returns-clause-row : goal.returns-clause-row
returns-clause-row c =
    let all : length c.args.schema.now ≤ c.loop-column.column-index = rw c.columns-columns.ensures.same at c.loop-column-test.false in
    read_whole c.args.schema.now c.args.bytes.now c.loop-column.column-index c.loop-column.at c.loop-column.row all c.loop-column.invariant

pub returns-clause-fits : goal.returns-clause-fits
returns-clause-fits c =
    subst (RowFits c.args.schema.now) (sym (returns-clause-row c)) (spelling_fits c.args.schema.now c.args.bytes.now c.requires)

pub returns-clause-spelt : goal.returns-clause-spelt
returns-clause-spelt c =
    ap (row_bytes c.args.schema.now) (returns-clause-row c) ∙ sym (spelling_bytes c.args.schema.now c.args.bytes.now c.requires)
