-- Statements that are refused early, whatever the rows are.
use Rattle.std.proofs.Common.{◌≡◌, ℕ, List, length, Some, Result, Ok, Err, inl, refl, ap, ◌∙◌}
use Rattle.std.specs.Prelude.{IfOk}
use Rattle.std.specs.Option.{option_or}
use Rattle.hv_model.specs.declared.tree.Ast.{Ast}
use Rattle.hv_model.specs.declared.script.Statement.{Statement}
use Rattle.hv_model.specs.declared.catalogue.Entry.{Entry}
use Rattle.hv_model.specs.declared.reply.Reply.{Reply}
use Rattle.hv_model.specs.declared.reply.Reply.TheVariants.{Refused}
use Rattle.hv_model.specs.declared.reply.Refusal.{Refusal}
use Rattle.hv_model.specs.Parsed.{parsed}
use Rattle.hv_model.specs.Database.{RowDatabase}
use Rattle.hv_model.specs.Command.{bound, text_refusal, early_refusal, empty_refusal}
use Rattle.hv_model.specs.Legal.{IsRefusedFor}
use Rattle.hv_model.specs.Settled.{Settles}
use Rattle.hv_model.proofs.Premises.{settles_under}

-- what was read of a text decides the early refusal
pub early_at : (x : Statement) (s : RowDatabase) (read : Result Ast ℕ) → parsed x.text ≡ read → early_refusal x s ≡ text_refusal (λ rows. rows) read x.lines s
early_at x s read is = ap (λ r. text_refusal (λ rows. rows) r x.lines s) is

-- an early refusal is the statement's, whatever the rows are
pub refused_early : (x : Statement) (s : RowDatabase) (max : ℕ) (known : Type 0) (cause : Refusal) → early_refusal x s ≡ Some cause → IsRefusedFor x s max known cause
refused_early x s max known cause early = record {
  told = λ _. ap (λ o. option_or o (empty_refusal (bound x s) s)) early;
  cause_is = inl early;
}

-- a statement that is refused early changes nothing
pub settles_early : (x : Statement) (max : ℕ) (known : Type 0) (s : RowDatabase) (history : List Entry) (at : ℕ) (cause : Refusal) → at ≡ length history → early_refusal x s ≡ Some cause
    → Settles x max known s history (Refused at cause) s history
settles_early x max known s history at cause counted early =
    (record { same_database = refl; same_history = refl; at_is = counted }, refused_early x s max known cause early)

-- a text that was read so refuses its statement
pub settles_read : (x : Statement) (max : ℕ) (known : Type 0) (s : RowDatabase) (history : List Entry) (at : ℕ) (read : Result Ast ℕ) (cause : Refusal) → at ≡ length history → parsed x.text ≡ read
    → text_refusal (λ rows. rows) read x.lines s ≡ Some cause → Settles x max known s history (Refused at cause) s history
settles_read x max known s history at read cause counted is refused = settles_early x max known s history at cause counted (early_at x s read is ∙ refused)

-- what is owed without a premise of content is owed under any
pub settled_known : {E : Type 0} (known : Type 0) (x : Statement) (before : RowDatabase) (history : List Entry) (r : Result Reply E) (new : RowDatabase) (longer : List Entry)
    → IfOk r (λ reply. (max : ℕ) → Settles x max (Unit {0}) before history reply new longer) → IfOk r (λ reply. (max : ℕ) → Settles x max known before history reply new longer)
settled_known known x before history (Ok reply) new longer settles = λ max. settles_under known (Unit {0}) (λ k. tt) x max before history reply new longer (settles max)
settled_known known x before history (Err cause) new longer settles = tt
