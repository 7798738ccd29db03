-- a table against which nothing stands is made
use Rattle.std.proofs.Common.{◌≡◌, None, sym, subst, ◌∙◌}
use Rattle.hv_model.specs.declared.catalogue.Database.{Database}
use Rattle.hv_model.specs.declared.catalogue.Command.TheVariants as command
use Rattle.hv_model.specs.Causes.{first_of}
use Rattle.hv_model.specs.Database.{with_table, create_causes}
use Rattle.hv_catalogue.specs.Holding.{Holding, AreBuilt}
use Rattle.hv_catalogue.proofs.Kept.{created_built}
use Rattle.hv_catalogue.proofs.Steps.{given, short_of_memory}
use Rattle.hv_catalogue.proofs.catalogue.Catalogue.create.Goals as goal

pub returns-in_err-put_table-clause-cause : goal.returns-in_err-put_table-clause-cause
returns-in_err-put_table-clause-cause g c =
    let before = c.args.self.now in
    let none : first_of (create_causes c.args.table before.database) ≡ None = sym c.create_cause.ensures ∙ c.in_default.is in
    let after = with_table c.args.table c.args.schema before.database in
    short_of_memory before (command.Create c.args.table c.args.schema) after c.from_residual.result c.from_residual.ensures.1
    (given (first_of (create_causes c.args.table before.database)) after none)

pub returns-in_err-put_table-clause-built : goal.returns-in_err-put_table-clause-built
returns-in_err-put_table-clause-built g c built =
    subst (λ (h : Holding _). AreBuilt g.C.ChunkView.viewed g.C.File.PageFile.tells g.C.File.PageFile.pages h.database) (sym c.in_err-put_table.ensures.err) built

pub returns-clause-built : goal.returns-clause-built
returns-clause-built g c built =
    subst (λ (s : Database _). AreBuilt g.C.ChunkView.viewed g.C.File.PageFile.tells g.C.File.PageFile.pages s) (sym c.in_ok-put_table.ensures.ok.database)
    (created_built g.C.ChunkView.viewed g.C.File.PageFile.tells g.C.File.PageFile.pages c.args.table c.args.schema c.args.self.now.database built)
