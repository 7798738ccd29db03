-- a command is answered at once; what nothing carries out yet is refused
use Rattle.std.proofs.Common.{Ok, refl, subst}
use Rattle.hv_model.specs.Fault.{IsStatement}
use Rattle.hv_model.specs.Lexed.{lexemes}
use Rattle.hv_model.specs.declared.reply.Refusal.TheVariants as refusal
use Rattle.hv_world.specs.Stored.{database_of}
use Rattle.hv_world.specs.declared.stage.Stage.TheVariants as stage
use Rattle.hv_world.proofs.Columns.{some_columns}
use Rattle.hv_world.proofs.Refusing.{settles_read}
use Rattle.hv_world.proofs.Importing.{answers_now}
use Rattle.hv_world.proofs.Stepping.{command_step, unbuilt_tree}
use Rattle.hv_world.proofs.statement.begin_tree.Goals as goal

pub create-answer-requires-clause-some : goal.create-answer-requires-clause-some
create-answer-requires-clause-some g c =
    let text = lexemes c.args.statement.now.text in
    some_columns text c.in-Create.table c.in-Create.columns (subst (λ tree. IsStatement text tree) c.in-Create.is c.requires.found)

pub returns-in-Create-clause-step : goal.returns-in-Create-clause-step
returns-in-Create-clause-step g c floor port idle =
    command_step g.F.PageFile.tells g.F.PageFile.pages c.args.statement.now floor c.args.catalogue.now c.create-answer.new.catalogue stage.Unbegun port c.create-answer.result c.answered.result idle
    c.create-answer.ensures.settles c.create-answer.ensures.unfailed c.create-answer.ensures.keeps c.answered.ensures.told c.answered.ensures.wants

pub returns-in-Purge-clause-step : goal.returns-in-Purge-clause-step
returns-in-Purge-clause-step g c floor port idle =
    command_step g.F.PageFile.tells g.F.PageFile.pages c.args.statement.now floor c.args.catalogue.now c.purge-answer.new.catalogue stage.Unbegun port c.purge-answer.result c.answered-in-Purge.result idle
    c.purge-answer.ensures.settles c.purge-answer.ensures.unfailed c.purge-answer.ensures.keeps c.answered-in-Purge.ensures.told c.answered-in-Purge.ensures.wants

pub returns-clause-step : goal.returns-clause-step
returns-clause-step g c floor port idle =
    let x = c.args.statement.now in
    let held = c.args.catalogue.now in
    rw c.refused.ensures (answers_now g.F.PageFile.tells g.F.PageFile.pages x floor held stage.Unbegun port _ idle tt
    (λ max. settles_read x max _ (database_of held) held.history _ (Ok c.args.tree) refusal.Unbuilt refl c.requires.is (unbuilt_tree c.args.tree x.lines (database_of held) c.in-Merge.is)))
