-- the table is looked up
use Rattle.std.proofs.Common.{refl}
use Rattle.hv_world.specs.Stored.{database_of}
use Rattle.hv_world.specs.declared.stage.Stage.TheVariants as stage
use Rattle.hv_world.proofs.Refusing.{settles_early}
use Rattle.hv_world.proofs.Carrying.{early_table}
use Rattle.hv_world.proofs.Importing.{looked_up, answers_now}
use Rattle.hv_world.proofs.import.begin_import.Goals as goal

pub returns-in_default : goal.returns-in_default
returns-in_default g c = record {
  step = λ floor port idle.
      let x = c.args.statement.now in
      let held = c.args.catalogue.now in
      let early = early_table x held c.args.table c.requires.is.0 c.requires.is.1 c.in_default.ensures in
      rw c.refused.ensures (answers_now g.F.PageFile.tells g.F.PageFile.pages x floor held stage.Unbegun port _ idle tt
      (λ max. settles_early x max _ (database_of held) held.history _ _ refl early));
}

pub returns : goal.returns
returns g c = record {
  step = λ floor port idle.
      let t = c.in-Some.ensures.0 in
      looked_up g.F.PageFile.tells g.F.PageFile.pages c.args.statement.now floor c.args.catalogue.now c.args.table t.schema c.look_at.result port idle c.requires.sound c.requires.is
      (record { table = t; named = c.in-Some.ensures.1; schema_is = refl }) c.look_at.ensures.at c.look_at.ensures.held;
}
