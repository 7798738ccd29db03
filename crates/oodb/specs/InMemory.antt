-- What a run over memory gives.
use Rattle.std.specs.Prelude.{◌≡◌, ◌⊎◌, ℕ, List}
use Rattle.hv_model.specs.declared.script.Script.{Script}
use Rattle.hv_model.specs.declared.catalogue.Entry.{Entry}
use Rattle.hv_model.specs.declared.reply.Reply.{Reply}
use Rattle.hv_model.specs.declared.script.FaultName.{FaultName}
use Rattle.hv_model.specs.Script.{IsScript, IsFault}
use Rattle.hv_model.specs.Legal.{Legal}
use Rattle.hv_model.specs.Report.{report_text}
use Rattle.oodb.specs.declared.status.Status.{Status}
use Rattle.oodb.specs.declared.status.Status.TheVariants as status
use Rattle.oodb.specs.Lines.{fault_line}
use Rattle.oodb.specs.Causes.{OnlyMemoryFailsIn}
use Rattle.oodb.specs.Told.{IsTold}
use Rattle.oodb.specs.Outcome.{status_of, IsReported}

-- these bytes are the report of one history and the replies of each session, which are legal for the script of the bytes with no premise, and fail by want of memory
-- alone
pub record Reports (bytes : List ℕ) (max : ℕ) (now : Status) (report : List ℕ) : Type 0 where
  pub script : Script
  pub history : List Entry
  pub replies : List (List Reply)
  pub script_is : IsScript bytes script
  pub legal : Legal script max (Unit {0}) history replies
  pub told : IsTold script history replies
  pub text : report ≡ report_text script history replies
  pub status : now ≡ status_of replies
  pub only : OnlyMemoryFailsIn replies

-- a run over memory ends with a report or with the line of a fault
abbrev pub IsEnd : Status → Type 0
IsEnd now = IsReported now ⊎ ((now ≡ status.Words) ⊎ (now ≡ status.Script))

-- a fault that the bytes have is what the run tells
abbrev pub TellsItsFault : List ℕ → Status → List ℕ → Type 0
TellsItsFault bytes now report = (name : FaultName) (byte : ℕ) → IsFault bytes name byte → (now ≡ status.Script) × (report ≡ fault_line name byte)

-- the line of a fault that these bytes have
pub record IsLineOf (bytes report : List ℕ) : Type 0 where
  pub name : FaultName
  pub byte : ℕ
  pub fault : IsFault bytes name byte
  pub is : report ≡ fault_line name byte

-- bytes that are a script are reported on
abbrev pub ReportsItsScript : List ℕ → Status → Type 0
ReportsItsScript bytes now = (s : Script) → IsScript bytes s → IsReported now
