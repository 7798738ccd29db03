-- the query is bound, or refused for its names and types
use Rattle.std.proofs.Common.{◌≡◌, Some, refl, subst}
use Rattle.hv_bind.specs.Cause.{IsFirstRefusal}
use Rattle.hv_model.specs.Selected.{select_refusal}
use Rattle.hv_world.specs.Stored.{database_of}
use Rattle.hv_world.specs.declared.stage.Stage.TheVariants as stage
use Rattle.hv_world.proofs.Refusing.{settles_early}
use Rattle.hv_world.proofs.Answering.{early_select}
use Rattle.hv_world.proofs.Importing.{answers_now, wants_now}
use Rattle.hv_world.proofs.Stepping.{select_begun}
use Rattle.hv_world.proofs.statement.read_tables.Goals as goal

pub returns-in-Ok : goal.returns-in-Ok
returns-in-Ok g c = record {
  step = λ floor port idle.
      select_begun g.F.PageFile.tells g.F.PageFile.pages c.args.statement.now floor c.args.catalogue.now c.in-Ok.job port idle c.in-Ok.ensures.job c.in-Ok.ensures.looks c.in-Ok.ensures.fits;
}

pub returns-in-Err-Refused : goal.returns-in-Err-Refused
returns-in-Err-Refused g c = record {
  step = λ floor port idle.
      let x = c.args.statement.now in
      let held = c.args.catalogue.now in
      let s = database_of held in
      let why : select_refusal c.args.tree.now s ≡ Some c.in-Err-Refused.cause =
      subst (λ f. IsFirstRefusal (select_refusal c.args.tree.now s) f) c.in-Err-Refused.field-0-is c.in-Err-Refused.ensures.refused in
      rw c.refused.ensures (answers_now g.F.PageFile.tells g.F.PageFile.pages x floor held stage.Unbegun port _ idle tt
      (λ max. settles_early x max _ s held.history _ _ refl (early_select x s c.args.tree.now c.in-Err-Refused.cause c.requires.is why)));
}

pub returns-in-Err-Memory : goal.returns-in-Err-Memory
returns-in-Err-Memory g c = record {
  step = λ floor port idle. rw c.failed.ensures (wants_now g.F.PageFile.tells g.F.PageFile.pages c.args.statement.now floor c.args.catalogue.now stage.Unbegun port c.look_at.result.at idle c.look_at.ensures.at);
}
