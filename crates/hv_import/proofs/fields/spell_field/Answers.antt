-- a text is one that the test takes
use Rattle.hv_import.proofs.Values.{told_text, told_none}
use Rattle.hv_import.proofs.fields.spell_field.Goals as goal

pub returns-then-not-is_text : goal.returns-then-not-is_text
returns-then-not-is_text c = told_none c.args.kind c.args.field.now c.is_text.result c.args.out.now.items c.in-Text.is c.is_text.ensures c.if-not-is_text.true

pub returns-in_ok-extend_from_slice-in-Text : goal.returns-in_ok-extend_from_slice-in-Text
returns-in_ok-extend_from_slice-in-Text c =
    told_text c.args.kind c.args.field.now c.is_text.result c.args.out.now.items _ _ c.in-Text.is c.is_text.ensures c.if-not-is_text.false c.in_ok-push-in-Text.ensures.items c.in_ok-extend_from_slice-in-Text.ensures.items
