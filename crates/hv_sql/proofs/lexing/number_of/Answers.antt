use Rattle.std.proofs.Common.{◌∙◌}
use Rattle.hv_model.proofs.TokenLaws.{utf8_number}
use Rattle.hv_sql.proofs.LexingNumbers.{number_is}
use Rattle.hv_sql.proofs.lexing.number_of.Goals as goal

pub returns-in_default : goal.returns-in_default
returns-in_default c = λ h. absurd (c.in_default.ensures.cases.0 (utf8_number c.args.bytes.now h))

pub returns : goal.returns
returns c = λ h.
    let parsed = rw c.in-Ok.ensures.cases.0 at c.parse.ensures.value.0 in
    c.unwrap_or.ensures ∙ number_is c.args.bytes.now _ parsed h
