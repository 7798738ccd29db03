-- a number past those made is new; what was kept stays true with the new chunk
use Rattle.std.proofs.Common.{◌≡◌, ◌+◌, ◌<◌, length, Some, None, [], ◌∷◌, ◌++◌, refl, sym, ap, subst, arith, ◌∙◌}
use Rattle.std.specs.Prelude.{slice_get}
use Rattle.hv_model.specs.Causes.{first_of}
use Rattle.hv_model.specs.Database.{with_chunk, import_causes}
use Rattle.hv_catalogue.specs.Holding.{Holding, IsKept}
use Rattle.hv_catalogue.specs.Stored.{holding_of}
use Rattle.hv_catalogue.proofs.Changes.{became}
use Rattle.hv_catalogue.proofs.Kept.{fresh, imported_kept}
use Rattle.hv_catalogue.proofs.Named.{element}
use Rattle.hv_catalogue.proofs.catalogue.Catalogue.put_chunk.Goals as goal

pub add_chunk-requires-clause-fresh : goal.add_chunk-requires-clause-fresh
add_chunk-requires-clause-fresh g c t stands =
    fresh (holding_of c.self.inside.tables.entries c.self.inside.made c.self.inside.entries.items) c.args.at t (c.self.inside.made + 1) c.self.invariant (omega arith) stands

pub invariant_of-self-2 : goal.invariant_of-self-2
invariant_of-self-2 g c =
    let held = holding_of c.self.inside.tables.entries c.self.inside.made c.self.inside.entries.items in
    let within : c.args.at < length held.database.tables = subst (λ (h : Holding _). c.args.at < length h.database.tables) (sym c.self.view_is) c.requires.within in
    let found = element held.database.tables c.args.at within in
    let none : first_of (import_causes found.0 held.database) ≡ None = subst (λ (h : Holding _). first_of (import_causes found.0 h.database) ≡ None) (sym c.self.view_is)
    (c.requires.accepted found.0 (subst (λ (h : Holding _). slice_get h.database.tables c.args.at ≡ Some found.0) c.self.view_is found.1)) in
    let entry = c.in_ok-entry.entry in
    let more = c.push_reserved.ensures.items ∙ ap (λ l. l ++ entry ∷ []) c.in_ok-reserve.ensures.items in
    subst (λ (h : Holding _). IsKept h)
    (became (with_chunk c.args.at found.0 c.args.chunk held.database) c.add_chunk.new.tables.entries (c.self.inside.made + 1) held.history c.push_reserved.new.self.items entry (c.in_ok-add_chunk.ensures.ok found.0 found.1) refl refl more)
    (imported_kept held c.args.at found.0 c.args.chunk entry c.self.invariant found.1 none)
