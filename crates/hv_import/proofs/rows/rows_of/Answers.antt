-- each record that is read is spelled or stops the rows, until none is left
use Rattle.std.proofs.Common.{rules, ◌≡◌, true, false, ◌∷◌, ◌++◌, [], length, Ok, ap, ◌∙◌, arith}
use Rattle.csv.specs.Records.{fields_of}
use Rattle.csv.specs.Reading.{ReadRecord}
use Rattle.hv_row.specs.Packed.{Packed, row_spelled, with_row}
use Rattle.std.proofs.lemmas.List.{length-append}
use Rattle.hv_model.specs.Import.{row_of, rows_of}
use Rattle.hv_import.specs.Rows.{IsRowsFault}
use Rattle.hv_import.proofs.Records.{of_slice, reading_next, reading_stops, reading_ends, reading_fault, past_most, short_more}
use Rattle.hv_import.proofs.rows.rows_of.Goals as goal

pub returns-then-not-found-clause-rows : goal.returns-then-not-found-clause-rows
returns-then-not-found-clause-rows c =
    let reading = c.loop-number.invariant.reading in
    let fields = fields_of c.read_byte_record.new.row in
    let read : ReadRecord of_slice c.loop-number.reader c.read_byte_record.new.self false fields = rw c.if-not-found.true at (c.in-Ok.ensures.reads reading.trim_is reading.ready) in
    reading_ends c.args.schema.now c.args.text.now c.loop-number.rows.rows c.loop-number.number c.loop-number.reader c.read_byte_record.new.self fields reading read

pub returns-in_err-spell_record-clause-fault : goal.returns-in_err-spell_record-clause-fault
returns-in_err-spell_record-clause-fault c =
    let reading = c.loop-number.invariant.reading in
    let fields = fields_of c.read_byte_record.new.row in
    let read : ReadRecord of_slice c.loop-number.reader c.read_byte_record.new.self true fields = rw c.if-not-found.false at (c.in-Ok.ensures.reads reading.trim_is reading.ready) in
    let same : c.columns.result.now ≡ c.args.schema.now = c.columns.ensures.same in
    let of_record : IsRowsFault (row_of c.args.schema.now c.loop-number.number fields) c.in_err-spell_record.field-0.0 = rw same at c.in_err-spell_record.ensures.fault in
    let of_text : IsRowsFault (rows_of c.args.schema.now c.args.text.now) c.in_err-spell_record.field-0.0 =
    reading_fault c.args.schema.now c.args.text.now c.loop-number.rows.rows c.loop-number.number c.loop-number.reader c.read_byte_record.new.self fields _ reading read of_record in
    search rules

pub loop-number-preserved : goal.loop-number-preserved
loop-number-preserved c =
    let reading = c.loop-number.invariant.reading in
    let fields = fields_of c.read_byte_record.new.row in
    let read : ReadRecord of_slice c.loop-number.reader c.read_byte_record.new.self true fields = rw c.if-not-found.false at (c.in-Ok.ensures.reads reading.trim_is reading.ready) in
    let same : c.columns.result.now ≡ c.args.schema.now = c.columns.ensures.same in
    let bytes = c.spell_record.new.out.items in
    let value : c.as_slice.result.now ≡ bytes = c.as_slice.ensures.value in
    let row : row_of c.args.schema.now c.loop-number.number fields ≡ Ok (row_spelled c.args.schema.now bytes) = rw same at c.in_ok-spell_record.ensures.row in
    let pushed : c.push.new.self ≡ with_row c.loop-number.rows (row_spelled c.loop-number.rows.schema c.as_slice.result.now) = c.in_ok-push.ensures.pushed in
    let schema : c.loop-number.rows.schema ≡ c.args.schema.now = c.loop-number.invariant.schema in
    let whole : c.push.new.self.rows ≡ c.loop-number.rows.rows ++ row_spelled c.loop-number.rows.schema c.as_slice.result.now ∷ [] = ap (λ (p : Packed). p.rows) pushed in
    let rows : c.push.new.self.rows ≡ c.loop-number.rows.rows ++ row_spelled c.args.schema.now bytes ∷ [] = rw (value, schema) at whole in
    let first : c.read_byte_record.new.self.first ≡ true = c.in-Ok.ensures.ready reading.trim_is in
    record {
      reading = reading_next c.args.schema.now c.args.text.now c.loop-number.rows.rows c.push.new.self.rows c.loop-number.number c.loop-number.reader c.read_byte_record.new.self fields _ reading read first row rows;
      schema = ap (λ (p : Packed). p.schema) pushed ∙ schema;
      short = short_more c.args.schema.now c.loop-number.rows.rows c.push.new.self.rows bytes c.loop-number.invariant.short (rw same at c.in_ok-spell_record.ensures.spelling) c.in_ok-spell_record.ensures.short rows;
      counted = omega (arith, ap length rows, length-append c.loop-number.rows.rows (row_spelled c.args.schema.now bytes ∷ []), c.loop-number.invariant.counted);
    }

pub returns-then-found-clause-fault : goal.returns-then-found-clause-fault
returns-then-found-clause-fault c =
    let reading = c.loop-number.invariant.reading in
    let fields = fields_of c.read_byte_record-2.new.row in
    let read : ReadRecord of_slice c.loop-number.reader c.read_byte_record-2.new.self true fields = rw c.if-found.true at (c.in-Ok-read_byte_record.ensures.reads reading.trim_is reading.ready) in
    let last : c.loop-number.number ≡ 1000001 = search rules in
    reading_stops c.args.schema.now c.args.text.now c.loop-number.rows.rows c.loop-number.number c.loop-number.reader c.read_byte_record-2.new.self fields _ reading read (past_most c.args.schema.now c.loop-number.number fields last)

pub returns-clause-rows : goal.returns-clause-rows
returns-clause-rows c =
    let reading = c.loop-number.invariant.reading in
    let fields = fields_of c.read_byte_record-2.new.row in
    let read : ReadRecord of_slice c.loop-number.reader c.read_byte_record-2.new.self false fields = rw c.if-found.false at (c.in-Ok-read_byte_record.ensures.reads reading.trim_is reading.ready) in
    reading_ends c.args.schema.now c.args.text.now c.loop-number.rows.rows c.loop-number.number c.loop-number.reader c.read_byte_record-2.new.self fields reading read
