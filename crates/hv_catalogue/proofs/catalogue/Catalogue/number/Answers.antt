-- the tables kept are those of the database
use Rattle.std.proofs.Common.{ℕ, ◌<◌, length, sym, ap, subst, ◌∙◌}
use Rattle.std.proofs.lemmas.List.{length-map}
use Rattle.std.proofs.lemmas.Option.{IfSome_then}
use Rattle.hv_model.specs.Database.{table_number}
use Rattle.hv_catalogue.specs.Holding.{Holding}
use Rattle.hv_catalogue.specs.Stored.{table_of}
use Rattle.hv_catalogue.proofs.catalogue.Catalogue.number.Goals as goal

pub returns-clause-number : goal.returns-clause-number
returns-clause-number g c = c.number_of.ensures.number ∙ ap (λ (h : Holding _). table_number h.database c.args.name.now) c.self.view_is

pub returns-clause-within : goal.returns-clause-within
returns-clause-within g c =
    IfSome_then c.number_of.result c.number_of.ensures.within
    (λ at within. subst (λ (h : Holding _). at < length h.database.tables) c.self.view_is (subst (λ (n : ℕ). at < n) (sym (length-map c.self.inside.tables.entries table_of)) within))
