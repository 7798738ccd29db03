-- a chunk against which nothing stands is added
use Rattle.std.proofs.Common.{◌≡◌, Some, None, sym, subst, ◌∙◌}
use Rattle.hv_model.specs.declared.catalogue.Database.{Database}
use Rattle.hv_model.specs.declared.catalogue.Command.TheVariants as command
use Rattle.hv_model.specs.Causes.{first_of}
use Rattle.hv_model.specs.Database.{table_number, with_chunk, import_causes}
use Rattle.hv_catalogue.specs.Holding.{Holding, AreBuilt}
use Rattle.hv_catalogue.proofs.Kept.{imported_built}
use Rattle.hv_catalogue.proofs.Named.{element}
use Rattle.hv_catalogue.proofs.Steps.{applied, given, import_is, named_is, short_of_memory}
use Rattle.hv_catalogue.proofs.catalogue.Catalogue.import.Goals as goal

pub returns-in_err-put_chunk-clause-cause : goal.returns-in_err-put_chunk-clause-cause
returns-in_err-put_chunk-clause-cause g c =
    let before = c.args.self.now in
    let number : table_number before.database c.args.table ≡ Some c.in-Some.at = sym c.number.ensures.number ∙ c.in-Some.is in
    let found = element before.database.tables c.in-Some.at c.in-Some.ensures.within in
    let causes = first_of (import_causes found.0 before.database) in
    let none : causes ≡ None = sym (c.import_cause.ensures found.0 found.1) ∙ c.in_default-import_cause.is in
    let after = with_chunk c.in-Some.at found.0 c.args.chunk before.database in
    short_of_memory before (command.Import c.args.table c.args.chunk) after c.from_residual.result c.from_residual.ensures.1
    (import_is before.database c.args.table c.in-Some.at found.0 c.args.chunk number found.1 ∙ given causes after none)

pub returns-in_err-put_chunk-clause-built : goal.returns-in_err-put_chunk-clause-built
returns-in_err-put_chunk-clause-built g c built =
    subst (λ (h : Holding _). AreBuilt g.C.ChunkView.viewed g.C.File.PageFile.tells g.C.File.PageFile.pages h.database) (sym c.in_err-put_chunk.ensures.err) built

pub returns-clause-applied : goal.returns-clause-applied
returns-clause-applied g c =
    let before = c.args.self.now in
    let number : table_number before.database c.args.table ≡ Some c.in-Some.at = sym c.number.ensures.number ∙ c.in-Some.is in
    let found = element before.database.tables c.in-Some.at c.in-Some.ensures.within in
    let causes = first_of (import_causes found.0 before.database) in
    let none : causes ≡ None = sym (c.import_cause.ensures found.0 found.1) ∙ c.in_default-import_cause.is in
    let after = with_chunk c.in-Some.at found.0 c.args.chunk before.database in
    applied (λ chunk. (g.C.ChunkView.viewed chunk).row_count) before c.put_chunk.new.self c.args.session.now c.args.number (command.Import c.args.table c.args.chunk) after c.length-2.result
    (import_is before.database c.args.table c.in-Some.at found.0 c.args.chunk number found.1 ∙ given causes after none)
    (c.in_ok-put_chunk.ensures.ok found.0 found.1) c.length-2.ensures.history

pub returns-clause-built : goal.returns-clause-built
returns-clause-built g c built =
    let before = c.args.self.now in
    let number : table_number before.database c.args.table ≡ Some c.in-Some.at = sym c.number.ensures.number ∙ c.in-Some.is in
    let found = element before.database.tables c.in-Some.at c.in-Some.ensures.within in
    let stepped = c.in_ok-put_chunk.ensures.ok found.0 found.1 in
    subst (λ (s : Database _). AreBuilt g.C.ChunkView.viewed g.C.File.PageFile.tells g.C.File.PageFile.pages s) (sym stepped.database)
    (imported_built g.C.ChunkView.viewed g.C.File.PageFile.tells g.C.File.PageFile.pages c.in-Some.at found.0 c.args.chunk before.database found.1
    (c.requires.built found.0 (named_is before.database c.args.table c.in-Some.at found.0 number found.1)) built)
