-- What went into a run and what came out of it: one relation by cases over the status, of which each clause of the top call is a branch.
use Rattle.std.specs.Prelude.{◌≡◌, ◌⊎◌, ℕ, Bool, true, false, List, Option, Result, Ok, Err, IsOk, IfSome, if◌then◌else◌}
use Rattle.std.specs.List.{list_any}
use Rattle.hv_io.specs.Bytes.{Seen}
use Rattle.hv_io.specs.Seen.{seen}
use Rattle.hv_io.specs.declared.source.Source as source
use Rattle.hv_io.specs.declared.sink.Sink as sink
use Rattle.hv_dev.specs.declared.device.Device as device
use Rattle.hv_dev.specs.Reading.{Back}
use Rattle.hv_io.specs.Counts.{Rose}
use Rattle.hv_io.specs.Putting.{TookAll, Stopped}
use Rattle.hv_io.specs.declared.writing.PutAll.{PutAll}
use Rattle.hv_model.specs.declared.script.Script.{Script}
use Rattle.hv_script.specs.declared.words.Options.{Options}
use Rattle.hv_model.specs.declared.script.FaultName.{FaultName}
use Rattle.hv_model.specs.declared.catalogue.Entry.{Entry}
use Rattle.hv_model.specs.declared.reply.Reply.{Reply}
use Rattle.hv_model.specs.declared.reply.Reply.TheVariants as reply
use Rattle.hv_model.specs.Script.{IsScript, IsFault}
use Rattle.hv_model.specs.Legal.{Legal}
use Rattle.hv_model.specs.Report.{report_text}
use Rattle.hv_script.specs.Words.{max_of}
use Rattle.oodb.specs.declared.status.Status.{Status}
use Rattle.oodb.specs.declared.status.Status.TheVariants as status
use Rattle.oodb.specs.Lines.{word_line, fault_line}
use Rattle.hv_world.specs.Known.{Known}
use Rattle.hv_world.specs.Unused.{IsUnused}
use Rattle.oodb.specs.Causes.{all_landed, AreCaused}
use Rattle.oodb.specs.Told.{IsTold}

-- what a clause sees of a source
pub record SourceSeen : Type 0 where
  pub left : Option (List ℕ)
  pub faults : ℕ

-- what is around a run: its source, its sink and its device
pub record Around (File : Type 0) : Type 0 where
  pub source : SourceSeen
  pub sink : Seen
  pub device : Back File

-- a source by its bound, as `source_seen S.Source script.old`
abbrev pub source_seen : {S : Type 0} → source.Ghosts S → S → SourceSeen
source_seen s given = record { left = s.left given; faults = s.faults given }

-- the three by their bounds' members
abbrev pub around : {S K D Port File : Type 0} → source.Ghosts S → sink.Ghosts K → device.Ghosts D Port File → S → K → D → Around File
around s k d given out dev = record { source = source_seen s given; sink = seen k out; device = d.returned dev }

-- whether a reply says that its statement failed
abbrev pub is_failed : Reply → Bool
is_failed (reply.Done at what) = false
is_failed (reply.Rows at rows) = false
is_failed (reply.Refused at cause) = false
is_failed (reply.Failed at cause) = true

-- the status of a report that was taken whole
abbrev pub status_of : List (List Reply) → Status
status_of replies = if list_any (list_any is_failed) replies then status.SomeFailed else status.Fine

-- the statuses of a report that was taken whole
abbrev pub IsReported : Status → Type 0
IsReported now = (now ≡ status.Fine) ⊎ (now ≡ status.SomeFailed)

-- the most rows of a query of one place that the words allow
abbrev pub max_of_words : Result Options ℕ → ℕ
max_of_words (Ok chosen) = max_of chosen
max_of_words (Err i) = 0

-- a word is at fault, the source is unread and the device as it was: the text is the word's line
pub record IsWordLine {File : Type 0} (chosen : Result Options ℕ) (text : List ℕ) (before after : Around File) : Type 0 where
  pub word : ℕ
  pub is : chosen ≡ Err word
  pub unread : after.source ≡ before.source
  pub still : after.device ≡ before.device
  pub line : text ≡ word_line word

-- the source's bytes have a fault and the device is as it was: the text is the fault's line
pub record IsFaultLine {File : Type 0} (chosen : Result Options ℕ) (text : List ℕ) (before after : Around File) : Type 0 where
  pub words : IsOk chosen
  pub calm : after.source.faults ≡ before.source.faults
  pub name : FaultName
  pub byte : ℕ
  pub fault : IfSome before.source.left (λ bytes. IsFault bytes name byte)
  pub still : after.device ≡ before.device
  pub line : text ≡ fault_line name byte

-- one history and the replies of each session, legal for the script of the source's bytes and caused by what became of the device: the text is the report on them,
-- with the status that it has once it is taken
pub record IsReport {File : Type 0} (tells : Bool) (chosen : Result Options ℕ) (full : Status) (text : List ℕ) (before after : Around File) : Type 0 where
  pub words : IsOk chosen
  pub calm : after.source.faults ≡ before.source.faults
  pub script : Script
  pub history : List Entry
  pub replies : List (List Reply)
  pub script_is : IfSome before.source.left (λ bytes. IsScript bytes script)
  pub causes : AreCaused tells script history replies before.device after.device
  pub legal : Legal script (max_of_words chosen) (Known tells script history (all_landed causes.landed)) history replies
  pub told : IsTold script history replies
  pub is : text ≡ report_text script history replies
  pub status : full ≡ status_of replies

-- a text of this kind was taken whole
pub record Took (Is : List ℕ → Type 0) (before after : Seen) : Type 0 where
  pub text : List ℕ
  pub is : Is text
  pub took : TookAll before text after

-- what the sink took, by the status: the report on a legal outcome, the line of a word, the line of a fault
abbrev pub TookReport : {File : Type 0} → Bool → Result Options ℕ → Status → Around File → Around File → Type 0
TookReport tells chosen now before after = Took (λ text. IsReport tells chosen now text before after) before.sink after.sink

abbrev pub TookWordLine : {File : Type 0} → Result Options ℕ → Around File → Around File → Type 0
TookWordLine chosen before after = Took (λ text. IsWordLine chosen text before after) before.sink after.sink

abbrev pub TookFaultLine : {File : Type 0} → Result Options ℕ → Around File → Around File → Type 0
TookFaultLine chosen before after = Took (λ text. IsFaultLine chosen text before after) before.sink after.sink

-- the source failed, nothing was taken and the device is as it was
pub record SourceFailed {File : Type 0} (chosen : Result Options ℕ) (before after : Around File) : Type 0 where
  pub words : IsOk chosen
  pub rose : Rose before.source.faults after.source.faults
  pub silent : after.sink ≡ before.sink
  pub still : after.device ≡ before.device

-- want of memory before the first statement: nothing was taken, and each port that the device had given came back unused
pub record NoMemory {File : Type 0} (chosen : Result Options ℕ) (before after : Around File) : Type 0 where
  pub words : IsOk chosen
  pub calm : after.source.faults ≡ before.source.faults
  pub silent : after.sink ≡ before.sink
  pub unused : IsUnused before.device after.device

-- a text that a run may hand over
abbrev pub MayWrite : {File : Type 0} → Bool → Result Options ℕ → List ℕ → Around File → Around File → Type 0
MayWrite tells chosen text before after =
    IsWordLine chosen text before after ⊎ (IsFaultLine chosen text before after ⊎ ((full : Status) × IsReport tells chosen full text before after))

-- the sink took a prefix of such a text, and then it failed or took nothing
pub record CutShort {File : Type 0} (tells : Bool) (chosen : Result Options ℕ) (before after : Around File) : Type 0 where
  pub text : List ℕ
  pub may : MayWrite tells chosen text before after
  pub cause : PutAll
  pub stopped : Stopped before.sink text after.sink cause

-- a text was written: all of it was taken and this is the status, or a prefix up to a fault of the sink
pub record Whole (text : List ℕ) (full now : Status) (before after : Seen) : Type 0 where
  pub status : now ≡ full
  pub took : TookAll before text after

pub record Cut (text : List ℕ) (now : Status) (before after : Seen) : Type 0 where
  pub status : now ≡ status.SinkFault
  pub cause : PutAll
  pub stopped : Stopped before text after cause

abbrev pub WholeOrCut : List ℕ → Status → Status → Seen → Seen → Type 0
WholeOrCut text full now before after = Whole text full now before after ⊎ Cut text now before after

-- what a run made of its words, its source, its sink and its device, whose files tell what they hold or don't
abbrev pub IsRun : {File : Type 0} → Bool → Result Options ℕ → Status → Around File → Around File → Type 0
IsRun tells chosen status.Fine before after = TookReport tells chosen status.Fine before after
IsRun tells chosen status.SomeFailed before after = TookReport tells chosen status.SomeFailed before after
IsRun tells chosen status.Words before after = TookWordLine chosen before after
IsRun tells chosen status.Script before after = TookFaultLine chosen before after
IsRun tells chosen status.SourceFault before after = SourceFailed chosen before after
IsRun tells chosen status.SinkFault before after = CutShort tells chosen before after
IsRun tells chosen status.Memory before after = NoMemory chosen before after

-- a script that was read is reported on, whatever its source was
abbrev pub ReportsOn : {File : Type 0} → Bool → Script → Status → Seen → Seen → Back File → Back File → Type 0
ReportsOn tells script now before after dev_before dev_after = (chosen : Options) (from to : SourceSeen) → IfSome from.left (λ bytes. IsScript bytes script) → to.faults ≡ from.faults
    → IsRun tells (Ok chosen) now (record { source = from; sink = before; device = dev_before }) (record { source = to; sink = after; device = dev_after })
