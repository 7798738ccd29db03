-- the new chunk stands last in its table; where there is no memory the tables are as they were
use Rattle.std.proofs.Common.{nat_eq, sym, refl, ◌∙◌}
use Rattle.indexmap.specs.IndexMap.{get}
use Rattle.indexmap.proofs.CallerLemmas.{insert_entry-new}
use Rattle.hv_model.specs.Database.{with_last_chunk}
use Rattle.hv_catalogue.proofs.Points.{absent}
use Rattle.hv_catalogue.specs.declared.stored.Stored.{Stored}
use Rattle.hv_catalogue.proofs.Tables.{stored_is, stored_has, one_more, tables_set, tables_same}
use Rattle.hv_catalogue.proofs.stored.add_chunk.Goals as goal

pub returns-in-Ok-clause-ok : goal.returns-in-Ok-clause-ok
returns-in-Ok-clause-ok g c t stands =
    let was = c.index_mut.result.now in
    let is = stored_is c.args.tables.now.entries c.args.at was t c.index_mut.ensures.value stands in
    let none = absent (get nat_eq was.chunks c.args.number) (sym (stored_has t was c.args.number is) ∙ c.requires.fresh t stands) in
    let more = c.in-Ok.ensures.entries ∙ insert_entry-new nat_eq was.chunks c.args.number c.args.chunk none in
    let became : Stored _ = record { schema = was.schema; chunks = c.insert.new.self } in
    tables_set c.args.tables.now.entries c.args.at became t (with_last_chunk t c.args.number c.args.chunk) stands
    (one_more t was became c.args.number c.args.chunk is refl more)

pub returns-clause-err : goal.returns-clause-err
returns-clause-err g c =
    let was = c.index_mut.result.now in
    tables_same c.args.tables.now.entries c.args.at was (record { schema = was.schema; chunks = c.insert.new.self }) c.index_mut.ensures.value refl c.in-Err.ensures.err
