use Rattle.std.proofs.Common.{◌∙◌, ap, is_some}
use Rattle.hv_sql.proofs.LexingClasses.{symbol_found}
use Rattle.hv_sql.proofs.lexing.is_symbol.Goals as goal

pub returns : goal.returns
returns c = c.is_some.ensures ∙ ap is_some c.symbol_of.ensures ∙ symbol_found c.args.bytes.now
