-- What the statuses of a run say: what its clauses name.
use Rattle.std.specs.Prelude.{◌≡◌, ◌⊎◌, ℕ, List, Result, IfSome}
use Rattle.hv_io.specs.Bytes.{Seen}
use Rattle.hv_io.specs.Counts.{Rose}
use Rattle.hv_io.specs.Putting.{TookAll, Stopped}
use Rattle.hv_io.specs.declared.writing.PutAll.{PutAll}
use Rattle.hv_model.specs.declared.script.Script.{Script}
use Rattle.hv_script.specs.declared.words.Options.{Options}
use Rattle.hv_model.specs.declared.script.FaultName.{FaultName}
use Rattle.hv_model.specs.Script.{IsScript, IsFault}
use Rattle.oodb.specs.declared.status.Status.{Status}
use Rattle.oodb.specs.declared.status.Status.TheVariants as status
use Rattle.oodb.specs.Lines.{fault_line}
use Rattle.oodb.specs.Causes.{IsCalm}
use Rattle.oodb.specs.Outcome.{Around, SourceFailed, NoMemory, IsReported}

-- the line of a fault is told: it was taken, or a prefix of it up to a fault of the sink; or the source failed, or memory was wanting, before the fault was known
abbrev pub TellsLine : {File : Type 0} → Result Options ℕ → List ℕ → Status → Around File → Around File → Type 0
TellsLine chosen line status.Fine before after = ⊥
TellsLine chosen line status.SomeFailed before after = ⊥
TellsLine chosen line status.Words before after = ⊥
TellsLine chosen line status.Script before after = TookAll before.sink line after.sink
TellsLine chosen line status.SourceFault before after = SourceFailed chosen before after
TellsLine chosen line status.SinkFault before after = (cause : PutAll) × Stopped before.sink line after.sink cause
TellsLine chosen line status.Memory before after = NoMemory chosen before after

-- so is each fault that the source's bytes have
abbrev pub TellsFault : {File : Type 0} → Result Options ℕ → Status → Around File → Around File → Type 0
TellsFault chosen now before after =
    IfSome before.source.left (λ bytes. (name : FaultName) (byte : ℕ) → IsFault bytes name byte → TellsLine chosen (fault_line name byte) now before after)

-- these bytes are no script
abbrev pub IsNoScript : List ℕ → Type 0
IsNoScript bytes = (s : Script) → ¬ (IsScript bytes s)

-- the sink failed, or took nothing of a piece that isn't empty: one of its counts rose
abbrev pub SinkRose : Seen → Seen → Type 0
SinkRose before after = Rose before.faults after.faults ⊎ Rose before.zeros after.zeros

-- the sink neither failed nor took nothing of a piece that isn't empty
pub record SinkKept (before after : Seen) : Type 0 where
  pub faults : after.faults ≡ before.faults
  pub zeros : after.zeros ≡ before.zeros

-- the sink told no fault, and could have told one
pub record SinkCalm (before after : Seen) : Type 0 where
  pub faults : IsCalm before.faults after.faults
  pub zeros : IsCalm before.zeros after.zeros

-- the script of these bytes is reported on, unless memory was wanting before its first statement
abbrev pub IsAnswered : List ℕ → Status → Type 0
IsAnswered bytes now = (s : Script) → IsScript bytes s → IsReported now ⊎ (now ≡ status.Memory)
