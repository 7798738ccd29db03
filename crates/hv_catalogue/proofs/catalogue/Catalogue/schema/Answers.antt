-- at the number of a name stands its table
use Rattle.std.proofs.Common.{◌≡◌, Some, sym, subst}
use Rattle.std.specs.Prelude.{slice_get}
use Rattle.hv_catalogue.specs.Holding.{Holding}
use Rattle.hv_catalogue.proofs.Named.{element}
use Rattle.hv_catalogue.proofs.Steps.{named_is}
use Rattle.hv_catalogue.proofs.catalogue.Catalogue.schema.Goals as goal

pub returns : goal.returns
returns g c =
    let s = c.args.self.now.database in
    let at = c.in_ok-at.at in
    let t = element s.tables at c.in_ok-at.ensures.within in (
      t.0,
      named_is s c.args.name.now at t.0 (sym c.in_ok-at.ensures.number) t.1,
      c.schema_at.ensures t.0 (subst (λ (h : Holding _). slice_get h.database.tables at ≡ Some t.0) (sym c.self.view_is) t.1),
    )
