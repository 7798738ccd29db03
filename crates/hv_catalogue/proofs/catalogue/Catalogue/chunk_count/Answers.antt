-- the tables kept are those of the database
use Rattle.std.proofs.Common.{◌≡◌, Some, sym, subst}
use Rattle.std.specs.Prelude.{slice_get}
use Rattle.hv_catalogue.specs.Holding.{Holding}
use Rattle.hv_catalogue.proofs.Changes.{within_entries}
use Rattle.hv_catalogue.proofs.catalogue.Catalogue.chunk_count.Goals as goal

pub chunk_count-requires : goal.chunk_count-requires
chunk_count-requires g c = within_entries c.self.inside.tables.entries c.self.inside.made c.self.inside.entries.items c.args.self.now c.args.at c.self.view_is c.requires

pub returns : goal.returns
returns g c t stands = c.chunk_count.ensures t (subst (λ (h : Holding _). slice_get h.database.tables c.args.at ≡ Some t) (sym c.self.view_is) stands)
