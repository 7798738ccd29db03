-- Digits are UTF-8, and parsing gives their value or tells that it is out of range.
use Rattle.std.proofs.Common.{◌∙◌, sym}
use Rattle.hv_model.proofs.TokenLaws.{utf8_number}
use Rattle.hv_script.proofs.Choosing.{number_parsed}
use Rattle.hv_script.proofs.words.number_of.Goals as goal

pub returns-in_default : goal.returns-in_default
returns-in_default c = absurd (c.in_default.ensures.cases.0 (utf8_number c.args.digits.now (sym c.if-not-is_number.ensures)))

pub returns : goal.returns
returns c =
    let parsed = rw c.in-Ok.ensures.cases.0 at c.parse.ensures.value.0 in
    c.ok.ensures.value ∙ number_parsed c.args.digits.now _ parsed (sym c.if-not-is_number.ensures)
