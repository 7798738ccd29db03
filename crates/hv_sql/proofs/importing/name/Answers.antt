-- What is found, or where it fails, is given; the rest is as the reader computes.
use Rattle.std.proofs.Common.{rules}
use Rattle.hv_sql.proofs.importing.name.Goals as goal

pub returns-in-Name : goal.returns-in-Name
returns-in-Name c = (record { name = c.in-Name.field-0.now; byte = c.in-Some.next.byte }, search rules)

pub returns-in_default : goal.returns-in_default
returns-in_default c = (c.args.lexemes, search rules)
