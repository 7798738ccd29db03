-- What is found, or where it fails, is given; the rest is as the reader computes.
use Rattle.std.proofs.Common.{rules}
use Rattle.hv_sql.proofs.importing.keyword.Goals as goal

pub returns-in-Some : goal.returns-in-Some
returns-in-Some c = (c.in-Some.next.byte, search rules)

pub returns-in_default : goal.returns-in_default
returns-in_default c = (c.args.lexemes, search rules)
