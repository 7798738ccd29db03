-- one column more has its value, until all have theirs
use Rattle.std.proofs.Common.{◌≡◌, length, arith, rules}
use Rattle.csv.specs.Records.{fields_of}
use Rattle.hv_import.proofs.Values.{found_here, field_found, spelt_more, spelt_stop, spelt_whole, row_stop, row_whole}
use Rattle.hv_import.proofs.fields.spell_record.Goals as goal

pub unwrap-field-requires : goal.unwrap-field-requires
unwrap-field-requires c =
    let same : length (fields_of c.args.«record».now) ≡ length c.args.columns.now = search rules in
    found_here (fields_of c.args.«record».now) c.loop-at.at c.get.result (omega (arith, same, c.loop-at-test.true)) c.get.ensures.value

pub returns-then-not-branch-clause-fault : goal.returns-then-not-branch-clause-fault
returns-then-not-branch-clause-fault c =
    let same : length (fields_of c.args.«record».now) ≡ length c.args.columns.now = search rules in
    let found = field_found (fields_of c.args.«record».now) c.loop-at.at c.get.result c.unwrap-field.result c.unwrap-field.ensures c.get.ensures.value in
    row_stop c.args.columns.now c.args.number (fields_of c.args.«record».now) _ c.requires.number same
    (spelt_stop c.args.columns.now _ _ c.loop-at.out.items c.unwrap-field.result.now c.spell_field.new.out.items c.index-columns-at.result c.loop-at-test.true c.index-columns-at.is found (search rules) c.loop-at.invariant)

pub loop-at-preserved : goal.loop-at-preserved
loop-at-preserved c =
    let found = field_found (fields_of c.args.«record».now) c.loop-at.at c.get.result c.unwrap-field.result c.unwrap-field.ensures c.get.ensures.value in
    spelt_more c.args.columns.now _ _ c.loop-at.out.items c.unwrap-field.result.now c.spell_field.new.out.items c.index-columns-at.result c.loop-at-test.true c.index-columns-at.is found (search rules) c.loop-at.invariant

pub returns-clause-row : goal.returns-clause-row
returns-clause-row c =
    let same : length (fields_of c.args.«record».now) ≡ length c.args.columns.now = search rules in
    let whole = spelt_whole c.args.columns.now (fields_of c.args.«record».now) c.loop-at.at c.loop-at.out.items c.loop-at-test.false c.loop-at.invariant in
    row_whole c.args.columns.now c.args.number _ c.loop-at.out.items c.requires.number same whole (search rules)
