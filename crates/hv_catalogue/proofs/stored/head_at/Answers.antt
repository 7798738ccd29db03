-- the entry that was read is that of the table
use Rattle.std.proofs.Common.{sym, ap, ◌∙◌}
use Rattle.std.specs.Option.{option_map}
use Rattle.std.specs.Map.Iter.{deref_pair}
use Rattle.hv_model.specs.declared.catalogue.Table.{Table}
use Rattle.hv_catalogue.proofs.Tables.{entry_is}
use Rattle.hv_catalogue.proofs.stored.head_at.Goals as goal

pub returns : goal.returns
returns g c t stands =
    let read = sym c.get_index.ensures.entry ∙ ap (option_map deref_pair) c.unwrap.ensures in
    let is = entry_is c.args.tables.now.entries c.args.at (deref_pair c.unwrap.result) t read stands in
    let names = c.in_ok-copy.ensures ∙ ap (λ (t : Table _). t.name) is in
    let schemas = c.in_ok-copy-2.ensures ∙ ap (λ (t : Table _). t.schema) is in
    λ j. record { number = c.args.at; name = names j; schema = schemas j }
