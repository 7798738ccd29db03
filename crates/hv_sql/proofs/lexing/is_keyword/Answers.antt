use Rattle.std.proofs.Common.{◌∙◌, ap, is_some}
use Rattle.hv_sql.proofs.LexingClasses.{keyword_found}
use Rattle.hv_sql.proofs.lexing.is_keyword.Goals as goal

pub returns : goal.returns
returns c = c.is_some.ensures ∙ ap is_some c.keyword_of.ensures ∙ keyword_found c.args.bytes.now
