-- Where it fails is given; the rest is as the reader computes.
use Rattle.std.proofs.Common.{rules}
use Rattle.hv_sql.proofs.importing.number.Goals as goal

pub returns-in_default : goal.returns-in_default
returns-in_default c = (c.args.lexemes, search rules)
