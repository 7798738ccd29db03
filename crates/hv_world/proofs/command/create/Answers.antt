-- the columns are those of a table, and the catalogue's answer is the statement's
use Rattle.std.proofs.Common.{◌≡◌, None, refl, sym, subst, ◌∙◌}
use Rattle.hv_model.specs.Causes.{first_of}
use Rattle.hv_model.specs.Command.{column_causes}
use Rattle.hv_model.specs.declared.catalogue.Command.TheVariants.{Create}
use Rattle.hv_world.specs.Stored.{database_of}
use Rattle.hv_world.proofs.Columns.{are_schema}
use Rattle.hv_world.proofs.Carrying.{Asks, asks_create, settles_ok, files_ok, early_columns}
use Rattle.hv_world.proofs.Refusing.{settles_early}
use Rattle.hv_world.proofs.command.create.Goals as goal

pub returns-clause-settles : goal.returns-clause-settles
returns-clause-settles g c =
    let x = c.args.statement.now in
    let held = c.args.catalogue.now in
    let free : first_of (column_causes c.args.columns) ≡ None = sym c.column_refusal.ensures ∙ c.in_default.is in
    let asks = subst (λ schema. Asks x c.args.table.byte held (Create c.args.table.name schema)) (sym c.new.ensures) (asks_create x held c.args.table c.args.columns c.requires.is free) in
    settles_ok x c.args.table.byte _ held c.carry_out.new.catalogue c.carry_out.result asks c.carry_out.ensures.carried

pub returns-clause-files : goal.returns-clause-files
returns-clause-files g c =
    files_ok c.args.statement.now c.args.table.byte _ c.args.catalogue.now c.carry_out.new.catalogue c.carry_out.result c.carry_out.ensures.carried c.carry_out.ensures.keeps

pub new-requires : goal.new-requires
new-requires g c = are_schema c.args.columns c.requires.some (sym c.column_refusal.ensures ∙ c.in_default.is)

pub returns-in-Some-clause-settles : goal.returns-in-Some-clause-settles
returns-in-Some-clause-settles g c max =
    rw c.refused.ensures
    (settles_early c.args.statement.now max _ (database_of c.args.catalogue.now) c.args.catalogue.now.history _ c.in-Some.cause refl
    (early_columns c.args.statement.now c.args.catalogue.now c.args.table c.args.columns c.in-Some.cause c.requires.is (sym c.column_refusal.ensures ∙ c.in-Some.is)))
