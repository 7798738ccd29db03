use Rattle.std.proofs.Common.{◌∙◌}
use Rattle.hv_sql.proofs.LexingNumbers.{utf8_told}
use Rattle.hv_sql.proofs.lexing.is_utf8.Goals as goal

pub returns : goal.returns
returns c = c.is_ok.ensures.value ∙ utf8_told c.args.bytes.now _ _ c.from_utf8.result c.from_utf8.ensures.cases
