-- what was kept stays true with the new table
use Rattle.std.proofs.Common.{◌≡◌, None, [], ◌∷◌, ◌++◌, refl, sym, ap, subst, ◌∙◌}
use Rattle.hv_model.specs.Causes.{first_of}
use Rattle.hv_model.specs.Database.{with_table, create_causes}
use Rattle.hv_catalogue.specs.Holding.{Holding, IsKept}
use Rattle.hv_catalogue.specs.Stored.{holding_of}
use Rattle.hv_catalogue.proofs.Changes.{became}
use Rattle.hv_catalogue.proofs.Kept.{created_kept}
use Rattle.hv_catalogue.proofs.catalogue.Catalogue.put_table.Goals as goal

pub invariant_of-self-2 : goal.invariant_of-self-2
invariant_of-self-2 g c =
    let held = holding_of c.self.inside.tables.entries c.self.inside.made c.self.inside.entries.items in
    let none : first_of (create_causes c.args.name held.database) ≡ None = subst (λ (h : Holding _). first_of (create_causes c.args.name h.database) ≡ None) (sym c.self.view_is) c.requires in
    let entry = c.in_ok-entry.entry in
    let more = c.push_reserved.ensures.items ∙ ap (λ l. l ++ entry ∷ []) c.in_ok-reserve.ensures.items in
    subst (λ (h : Holding _). IsKept h)
    (became (with_table c.args.name c.args.schema held.database) c.add_table.new.tables.entries c.self.inside.made held.history c.push_reserved.new.self.items entry c.in_ok-add_table.ensures.ok refl refl more)
    (created_kept held c.args.name c.args.schema entry c.self.invariant none)
