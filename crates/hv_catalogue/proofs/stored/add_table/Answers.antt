-- the new table stands last
use Rattle.hv_catalogue.proofs.Tables.{one_table}
use Rattle.hv_catalogue.proofs.stored.add_table.Goals as goal

pub returns-in-Ok-clause-ok : goal.returns-in-Ok-clause-ok
returns-in-Ok-clause-ok g c =
    one_table c.args.tables.now c.insert.new.self.entries c.args.name (record { schema = c.args.schema; chunks = c.new-chunks.result }) c.requires c.new-chunks.ensures.empty c.in-Ok.ensures.entries
