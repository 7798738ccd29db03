-- as many tables as are kept
use Rattle.std.proofs.Common.{length, sym, ap, ◌∙◌}
use Rattle.std.proofs.lemmas.List.{length-map}
use Rattle.hv_catalogue.specs.Holding.{Holding}
use Rattle.hv_catalogue.specs.Stored.{table_of}
use Rattle.hv_catalogue.proofs.catalogue.Catalogue.table_count.Goals as goal

pub returns : goal.returns
returns g c = c.len.ensures.len ∙ sym (length-map c.self.inside.tables.entries table_of) ∙ ap (λ (h : Holding _). length h.database.tables) c.self.view_is
