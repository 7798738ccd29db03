-- the table has the chunk whose number is a key
use Rattle.std.proofs.Common.{sym, ◌∙◌}
use Rattle.hv_catalogue.proofs.Tables.{stored_is, stored_has}
use Rattle.hv_catalogue.proofs.stored.holds_chunk.Goals as goal

pub returns : goal.returns
returns g c t stands = c.contains_key.ensures ∙ sym (stored_has t c.index.result.now c.args.number (stored_is c.args.tables.now.entries c.args.at c.index.result.now t c.index.ensures stands))
