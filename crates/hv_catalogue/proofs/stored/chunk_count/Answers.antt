-- the table has as many chunks as are kept
use Rattle.std.proofs.Common.{sym, ◌∙◌}
use Rattle.hv_catalogue.proofs.Tables.{stored_is, stored_count}
use Rattle.hv_catalogue.proofs.stored.chunk_count.Goals as goal

pub returns : goal.returns
returns g c t stands = c.len.ensures.len ∙ sym (stored_count t c.index.result.now (stored_is c.args.tables.now.entries c.args.at c.index.result.now t c.index.ensures stands))
