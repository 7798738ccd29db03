-- no chunk has a number past those made
use Rattle.std.proofs.Common.{◌≡◌, Some, sym, subst, arith}
use Rattle.std.specs.Prelude.{slice_get}
use Rattle.hv_catalogue.specs.Holding.{Holding}
use Rattle.hv_catalogue.specs.Stored.{holding_of}
use Rattle.hv_catalogue.proofs.Kept.{fresh}
use Rattle.hv_catalogue.proofs.catalogue.Catalogue.chunk_number.Goals as goal

pub returns-then-chunk-self : goal.returns-then-chunk-self
returns-then-chunk-self g c t stands =
    fresh (holding_of c.self.inside.tables.entries c.self.inside.made c.self.inside.entries.items) c.args.at t c.args.chunk c.self.invariant (omega arith)
    (subst (λ (h : Holding _). slice_get h.database.tables c.args.at ≡ Some t) (sym c.self.view_is) stands)
