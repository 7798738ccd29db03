-- the schema that is kept is the table's
use Rattle.std.proofs.Common.{sym, ap}
use Rattle.hv_model.specs.declared.catalogue.Table.{Table}
use Rattle.hv_catalogue.proofs.Tables.{stored_is}
use Rattle.hv_catalogue.proofs.stored.schema_at.Goals as goal

pub returns : goal.returns
returns g c t stands = sym (ap (λ (t : Table _). t.schema) (stored_is c.args.tables.now.entries c.args.at c.index.result.now t c.index.ensures stands))
