-- the place of the name among the keys is the table's number
use Rattle.std.proofs.Common.{◌∙◌}
use Rattle.hv_catalogue.proofs.Tables.{number_is}
use Rattle.hv_catalogue.proofs.stored.number_of.Goals as goal

pub returns-clause-number : goal.returns-clause-number
returns-clause-number g c = c.get_index_of.ensures.index ∙ number_is c.args.tables.now.entries c.args.name.now
