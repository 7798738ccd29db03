-- the chunk is taken out of its table
use Rattle.std.proofs.Common.{refl, ap, ◌∙◌}
use Rattle.std.specs.Prelude.{map}
use Rattle.hv_model.specs.Database.{without_chunk}
use Rattle.hv_catalogue.specs.Stored.{chunk_of}
use Rattle.hv_catalogue.specs.declared.stored.Stored.{Stored}
use Rattle.hv_catalogue.proofs.Tables.{stored_is, one_less, taken_out, tables_set}
use Rattle.hv_catalogue.proofs.stored.remove_chunk.Goals as goal

pub returns : goal.returns
returns g c t stands =
    let was = c.index_mut.result.now in
    let is = stored_is c.args.tables.now.entries c.args.at was t c.index_mut.ensures.value stands in
    let less = ap (map chunk_of) c.shift_remove.ensures.entries ∙ taken_out c.args.number was.chunks.entries c.len-count.ensures.unique in
    let became : Stored _ = record { schema = was.schema; chunks = c.shift_remove.new.self } in
    tables_set c.args.tables.now.entries c.args.at became t (without_chunk t c.args.number) stands (one_less t was became c.args.number is refl less)
