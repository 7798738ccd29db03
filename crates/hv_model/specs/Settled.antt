-- What the answer to one statement owes where it is answered at once: its reply, and the database and the history behind it. This project's own.
use Rattle.std.specs.Prelude.{◌≡◌, ℕ, ◌+◌, true, List, [], ◌∷◌, ◌++◌, length, Ok}
use Rattle.hv_model.specs.declared.script.Statement.{Statement}
use Rattle.hv_model.specs.declared.catalogue.Detail.{Detail}
use Rattle.hv_model.specs.declared.catalogue.Entry.{Entry}
use Rattle.hv_model.specs.declared.reply.Reply.{Reply}
use Rattle.hv_model.specs.declared.reply.Reply.TheVariants.{Done, Rows, Refused, Failed}
use Rattle.hv_model.specs.Parsed.{tree_of}
use Rattle.hv_model.specs.Database.{RowDatabase, RowCommand, step}
use Rattle.hv_model.specs.Command.{command_at, detail_of}
use Rattle.hv_model.specs.Legal.{Names, Answered, IsRefusedFor, may_fail}

-- the command of a statement was accepted, and its entry is the last of the longer history
pub record Commits (x : Statement) (before : RowDatabase) (history : List Entry) (at : ℕ) (what : Detail) (new : RowDatabase) (longer : List Entry) : Type 0 where
  pub entry : Entry
  pub names : Names entry x
  pub told : entry.what ≡ what
  pub is_longer : longer ≡ history ++ entry ∷ []
  pub at_is : at ≡ length history + 1
  pub command : RowCommand
  pub is : command_at x before ≡ Ok command
  pub steps : step before command ≡ Ok new
  pub detail : what ≡ detail_of before command

-- nothing has changed, and the reply tells the present length
pub record Stays (before : RowDatabase) (history : List Entry) (at : ℕ) (new : RowDatabase) (longer : List Entry) : Type 0 where
  pub same_database : new ≡ before
  pub same_history : longer ≡ history
  pub at_is : at ≡ length history

-- what the answer to one statement owes: its reply, the database behind it and the history behind it
abbrev pub Settles : Statement → ℕ → Type 0 → RowDatabase → List Entry → Reply → RowDatabase → List Entry → Type 0
Settles x max known before history (Done at what) new longer = Commits x before history at what new longer
Settles x max known before history (Rows at rows) new longer = Stays before history at new longer × Answered x before max known rows
Settles x max known before history (Refused at cause) new longer = Stays before history at new longer × IsRefusedFor x before max known cause
Settles x max known before history (Failed at cause) new longer = Stays before history at new longer × (may_fail (tree_of x.text) cause ≡ true)
