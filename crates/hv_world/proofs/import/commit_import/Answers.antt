-- the rows that are on the chunk's pages are those of the statement's data
use Rattle.std.proofs.Common.{◌≡◌, Ok, sym, subst}
use Rattle.hv_view.specs.View.{Viewed}
use Rattle.hv_model.specs.Import.{rows_of}
use Rattle.hv_model.specs.declared.catalogue.Command.TheVariants.{Import}
use Rattle.hv_world.proofs.Carrying.{Asks, asks_import, settles_ok, files_ok}
use Rattle.hv_world.proofs.import.commit_import.Goals as goal

pub returns-clause-settles : goal.returns-clause-settles
returns-clause-settles g c =
    let x = c.args.statement.now in
    let held = c.args.catalogue.now in
    let stands = c.requires.imports.stands in
    let t = stands.table in
    let chunk = c.args.chunk in
    let rows : rows_of t.schema x.lines ≡ Ok chunk.rows = subst (λ s. rows_of s x.lines ≡ Ok chunk.rows) (sym stands.schema_is) c.requires.imports.spelled in
    let asks : Asks x c.args.table.byte held (Import c.args.table.name chunk) =
    asks_import x held c.args.table c.requires.imports.imports.0 t chunk c.requires.imports.imports.1 stands.named rows c.requires.built.recorded.is_chunk.counted in
    let new : Asks x c.args.table.byte held (Import c.args.table.name c.in_ok-new.field-0) =
    subst (λ (v : Viewed _). Asks x c.args.table.byte held (Import c.args.table.name v)) (sym c.in_ok-new.ensures) asks in
    settles_ok x c.args.table.byte _ held c.carry_out.new.catalogue c.carry_out.result new c.carry_out.ensures.carried

pub returns-clause-files : goal.returns-clause-files
returns-clause-files g c =
    files_ok c.args.statement.now c.args.table.byte _ c.args.catalogue.now c.carry_out.new.catalogue c.carry_out.result c.carry_out.ensures.carried c.carry_out.ensures.keeps
