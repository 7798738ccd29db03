-- `parse` reads a sign and digits whose number fits, and such a field is a text
use Rattle.std.proofs.Common.{sym}
use Rattle.hv_import.proofs.Numbers.{integer_text, parsed}
use Rattle.hv_import.proofs.fields.integer.Goals as goal

pub returns-in_default : goal.returns-in_default
returns-in_default c = λ is. c.in_default.ensures.cases.0 (integer_text _ is)

pub returns : goal.returns
returns c = rw c.ok.ensures.value (rw (sym c.in-Ok.ensures.cases.0) (parsed c.in-Ok.text.now _ c.parse.ensures.value.0))
