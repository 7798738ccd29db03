-- the text has a tree, or no statement goes on with it
use Rattle.std.proofs.Common.{◌≡◌, Err, length, refl, sym, ap, subst, ◌∙◌}
use Rattle.hv_model.specs.declared.reply.Reply.TheVariants.{Refused}
use Rattle.hv_model.specs.declared.reply.Refusal.TheVariants as refusal
use Rattle.hv_model.specs.Parsed.{parsed}
use Rattle.hv_sql.specs.Answer.{Reads}
use Rattle.hv_world.specs.Stored.{database_of}
use Rattle.hv_world.specs.declared.stage.Stage.TheVariants as stage
use Rattle.hv_world.proofs.Refusing.{settles_read}
use Rattle.hv_world.proofs.Importing.{answers_now}
use Rattle.hv_world.proofs.statement.begin.Goals as goal

pub returns-in-Ok-clause-step : goal.returns-in-Ok-clause-step
returns-in-Ok-clause-step g c port idle = c.begin_tree.ensures.step c.args.floor port idle

pub returns-in-Err-Syntax-clause-step : goal.returns-in-Err-Syntax-clause-step
returns-in-Err-Syntax-clause-step g c port idle =
    let x = c.args.statement.now in
    let held = c.args.catalogue.now in
    let read = subst (λ f. Reads (Err f) (parsed c.as_slice.result.now)) c.in-Err-Syntax.field-0-is c.in-Err-Syntax.ensures.read in
    let its : parsed x.text ≡ Err c.in-Err-Syntax.byte = ap parsed (sym c.as_slice.ensures) ∙ read in
    let told : c.refused.result ≡ Refused (length held.history) (refusal.Syntax c.in-Err-Syntax.byte) =
    c.refused.ensures ∙ (λ j. Refused (length held.history) (refusal.Syntax (c.in-Err-Syntax.byte-is j))) in
    rw told (answers_now g.F.PageFile.tells g.F.PageFile.pages x c.args.floor held stage.Unbegun port _ idle tt
    (λ max. settles_read x max _ (database_of held) held.history _ (Err c.in-Err-Syntax.byte) (refusal.Syntax c.in-Err-Syntax.byte) refl its refl))
