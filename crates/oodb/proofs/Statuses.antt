-- What each clause of a run says, by cases over its status.
use Rattle.std.proofs.Common.{◌≡◌, ◌⊎◌, ℕ, ◌+◌, ◌≤◌, ◌<◌, min, Bool, List, [], Option, Some, None, Result, Ok, Err, IsOk, IfSome, IfErr, inl, inr, refl, sym, ◌∙◌, ap, subst, arith}
use Rattle.std.proofs.lemmas.List.{append-nil}
use Rattle.hv_io.specs.Bytes.{Seen}
use Rattle.hv_io.specs.Counts.{Rose}
use Rattle.hv_io.specs.Putting.{TookAll, Stopped}
use Rattle.hv_io.specs.declared.writing.PutAll.{PutAll}
use Rattle.hv_io.specs.declared.writing.PutAll.TheVariants.{Failed, Zero}
use Rattle.hv_dev.specs.Reading.{Back}
use Rattle.hv_script.specs.declared.words.Options.{Options}
use Rattle.hv_model.specs.declared.script.FaultName.{FaultName}
use Rattle.hv_model.specs.Script.{IsScript, IsFault}
use Rattle.hv_script.proofs.Once.{no_fault_too, one_fault}
use Rattle.oodb.specs.declared.status.Status.{Status}
use Rattle.oodb.specs.declared.status.Status.TheVariants as status
use Rattle.oodb.specs.Lines.{fault_line}
use Rattle.hv_world.specs.Unused.{CountStands, IsUnused}
use Rattle.oodb.specs.Causes.{IsCalm, DeviceKept, all_landed}
use Rattle.oodb.specs.Outcome.{Around, IsFaultLine, IsReport, MayWrite, CutShort, SourceFailed, NoMemory, IsRun, IsReported}
use Rattle.oodb.proofs.Running.{at_status}
use Rattle.oodb.specs.Statuses.{TellsFault, IsNoScript, SinkRose, SinkKept, SinkCalm, IsAnswered}

-- what holds of any value holds of the one that there may be
pub if_any : {X : Type 0} (o : Option X) (P : X → Type 0) → ((x : X) → P x) → IfSome o P
if_any None P h = tt
if_any (Some x) P h = h x

-- what follows of any value follows of the one that there may be
pub if_follows : {X : Type 0} (o : Option X) (P Q : X → Type 0) → ((x : X) → P x → Q x) → IfSome o P → IfSome o Q
if_follows None P Q h p = tt
if_follows (Some x) P Q h p = h x p

-- a word is not at fault where the words have a meaning
pub good_words : (chosen : Result Options ℕ) (i : ℕ) → chosen ≡ Err i → IsOk chosen → ⊥
good_words (Ok options) i is ok = cc
good_words (Err word) i is ok = cc

-- what holds of each word at fault holds of the one that there may be
pub if_bad : (chosen : Result Options ℕ) (P : ℕ → Type 0) → ((i : ℕ) → chosen ≡ Err i → P i) → IfErr chosen P
if_bad (Ok options) P h = tt
if_bad (Err i) P h = h i refl

-- where no count rose, none told a fault
pub calm_never : (before now : ℕ) → IsCalm before now → Rose before now → ⊥
calm_never before now calm rose =
    let same : now ≡ before = calm.same in let below : before < 18446744073709551615 = calm.below in
    let risen : min (before + 1) 18446744073709551615 ≤ now = rose.risen in omega arith

calm_uncut : (before after : Seen) → SinkCalm before after → SinkRose before after → ⊥
calm_uncut before after calm (inl rose) = calm_never before.faults after.faults calm.faults rose
calm_uncut before after calm (inr rose) = calm_never before.zeros after.zeros calm.zeros rose

-- the sink's counts
stopped_rose : (text : List ℕ) (before after : Seen) (cause : PutAll) → Stopped before text after cause → SinkRose before after
stopped_rose text before after Failed stopped = inl stopped.counted.0
stopped_rose text before after Zero stopped = inr stopped.counted.0

took_kept : (text : List ℕ) (before after : Seen) → TookAll before text after → SinkKept before after
took_kept text before after took = record { faults = took.faults; zeros = took.zeros }

silent_kept : (before after : Seen) → after ≡ before → SinkKept before after
silent_kept before after silent = record { faults = ap (λ (s : Seen). s.faults) silent; zeros = ap (λ (s : Seen). s.zeros) silent }

-- the device as it was
still_kept : {File : Type 0} (before after : Back File) → after ≡ before → DeviceKept before after
still_kept before after still = record {
  ports = ap (λ (b : Back _). b.out) still;
  faults = (let same : after.faults ≡ before.faults = ap (λ (b : Back _). b.faults) still in omega arith);
  landed = [];
  landings = ap (λ (b : Back _). b.landings) still ∙ sym (append-nil before.landings);
}

-- a count that stands did not fall below its end
stands_kept : (before now : ℕ) → CountStands before now → min before 18446744073709551615 ≤ now
stands_kept before now (inl same) = omega arith
stands_kept before now (inr capped) = omega arith

-- a device whose ports came back unused
unused_kept : {File : Type 0} (before after : Back File) → IsUnused before after → DeviceKept before after
unused_kept before after unused = record {
  ports = unused.out;
  faults = stands_kept before.faults after.faults unused.faults;
  landed = [];
  landings = unused.landings ∙ sym (append-nil before.landings);
}

-- the same fault has the same line
pub same_line : (bytes : List ℕ) (name other : FaultName) (byte place : ℕ) → IsFault bytes name byte → IsFault bytes other place → fault_line name byte ≡ fault_line other place
same_line bytes name other byte place fault again =
    let same = one_fault bytes name other byte place fault again in
    let n : name ≡ other = same.0 in let b : byte ≡ place = same.1 in cc

module _ {File : Type 0} (tells : Bool) (chosen : Result Options ℕ) (before after : Around File) where
  -- a word at fault: the source is unread
  pub unread : (i : ℕ) (now : Status) → chosen ≡ Err i → IsRun tells chosen now before after
      → (after.source ≡ before.source) × ((now ≡ status.Words) ⊎ (now ≡ status.SinkFault))
  unread i status.Fine bad took = absurd (good_words chosen i bad took.is.words)
  unread i status.SomeFailed bad took = absurd (good_words chosen i bad took.is.words)
  unread i status.Words bad took = (took.is.unread, inl refl)
  unread i status.Script bad took = absurd (good_words chosen i bad took.is.words)
  unread i status.SourceFault bad failed = absurd (good_words chosen i bad failed.words)
  unread i status.SinkFault bad cut = elim cut.may [
    | inl word ↦ (word.unread, inr refl)
    | inr text ↦ elim text [ inl fault ↦ absurd (good_words chosen i bad fault.words) | inr report ↦ absurd (good_words chosen i bad report.1.words) ]
  ]
  unread i status.Memory bad none = absurd (good_words chosen i bad none.words)

  -- the source did not fail
  may_calm : (text : List ℕ) → MayWrite tells chosen text before after → after.source.faults ≡ before.source.faults
  may_calm text (inl word) = ap (λ t. t.faults) word.unread
  may_calm text (inr (inl fault)) = fault.calm
  may_calm text (inr (inr report)) = report.1.calm

  pub calm : (now : Status) → IsRun tells chosen now before after → ¬ (now ≡ status.SourceFault) → after.source.faults ≡ before.source.faults
  calm status.Fine took never = took.is.calm
  calm status.SomeFailed took never = took.is.calm
  calm status.Words took never = ap (λ t. t.faults) took.is.unread
  calm status.Script took never = took.is.calm
  calm status.SourceFault failed never = absurd (never refl)
  calm status.SinkFault cut never = may_calm cut.text cut.may
  calm status.Memory none never = none.calm

  -- the sink failed or took nothing
  sink_rose : CutShort tells chosen before after → SinkRose before.sink after.sink
  sink_rose cut = stopped_rose cut.text before.sink after.sink cut.cause cut.stopped

  pub sink_cut : (now : Status) → IsRun tells chosen now before after → now ≡ status.SinkFault → SinkRose before.sink after.sink × CutShort tells chosen before after
  sink_cut now answers is = let cut = at_status tells chosen before after now status.SinkFault is answers in (sink_rose cut, cut)

  pub sink_kept : (now : Status) → IsRun tells chosen now before after → ¬ (now ≡ status.SinkFault) → SinkKept before.sink after.sink
  sink_kept status.Fine took never = took_kept took.text before.sink after.sink took.took
  sink_kept status.SomeFailed took never = took_kept took.text before.sink after.sink took.took
  sink_kept status.Words took never = took_kept took.text before.sink after.sink took.took
  sink_kept status.Script took never = took_kept took.text before.sink after.sink took.took
  sink_kept status.SourceFault failed never = silent_kept before.sink after.sink failed.silent
  sink_kept status.SinkFault cut never = absurd (never refl)
  sink_kept status.Memory none never = silent_kept before.sink after.sink none.silent

  -- where no port went the device is as it was
  pub device_still : (now : Status) → IsRun tells chosen now before after → ¬ (IsReported now) → ¬ (now ≡ status.SinkFault) → ¬ (now ≡ status.Memory)
      → after.device ≡ before.device
  device_still status.Fine took silent uncut memory = absurd (silent (inl refl))
  device_still status.SomeFailed took silent uncut memory = absurd (silent (inr refl))
  device_still status.Words took silent uncut memory = took.is.still
  device_still status.Script took silent uncut memory = took.is.still
  device_still status.SourceFault failed silent uncut memory = failed.still
  device_still status.SinkFault cut silent uncut memory = absurd (uncut refl)
  device_still status.Memory none silent uncut memory = absurd (memory refl)

  -- where no statement was answered for want of memory, each port came back unused
  pub device_unused : (now : Status) → IsRun tells chosen now before after → now ≡ status.Memory → IsUnused before.device after.device
  device_unused now answers is = let none = at_status tells chosen before after now status.Memory is answers in none.unused

  -- whatever became of the run, the device is kept
  caused_kept : (full : Status) (text : List ℕ) → IsReport tells chosen full text before after → DeviceKept before.device after.device
  caused_kept full text report = record {
    ports = report.causes.ports;
    faults = report.causes.reads_and_writes.falls_never;
    landed = all_landed report.causes.landed;
    landings = report.causes.landings;
  }

  may_kept : (text : List ℕ) → MayWrite tells chosen text before after → DeviceKept before.device after.device
  may_kept text (inl word) = still_kept before.device after.device word.still
  may_kept text (inr (inl fault)) = still_kept before.device after.device fault.still
  may_kept text (inr (inr report)) = caused_kept report.0 text report.1

  pub device_kept : (now : Status) → IsRun tells chosen now before after → DeviceKept before.device after.device
  device_kept status.Fine took = caused_kept status.Fine took.text took.is
  device_kept status.SomeFailed took = caused_kept status.SomeFailed took.text took.is
  device_kept status.Words took = still_kept before.device after.device took.is.still
  device_kept status.Script took = still_kept before.device after.device took.is.still
  device_kept status.SourceFault failed = still_kept before.device after.device failed.still
  device_kept status.SinkFault cut = may_kept cut.text cut.may
  device_kept status.Memory none = unused_kept before.device after.device none.unused

  -- a script has no fault
  faultless : (full : Status) (text : List ℕ) → IsReport tells chosen full text before after
      → IfSome before.source.left (λ bytes. (name : FaultName) (byte : ℕ) → IsFault bytes name byte → ⊥)
  faultless full text report = if_follows before.source.left (λ bytes. IsScript bytes report.script) (λ bytes. (name : FaultName) (byte : ℕ) → IsFault bytes name byte → ⊥)
      (λ bytes is name byte fault. no_fault_too bytes report.script name byte is fault) report.script_is

  -- the line of the fault that the bytes have
  line_told : (Tells : List ℕ → Type 0) (text : List ℕ) → IsFaultLine chosen text before after → Tells text
      → IfSome before.source.left (λ bytes. (name : FaultName) (byte : ℕ) → IsFault bytes name byte → Tells (fault_line name byte))
  line_told Tells text found told = if_follows before.source.left (λ bytes. IsFault bytes found.name found.byte)
      (λ bytes. (name : FaultName) (byte : ℕ) → IsFault bytes name byte → Tells (fault_line name byte))
      (λ bytes fault name byte again. subst Tells (found.line ∙ same_line bytes found.name name found.byte byte fault again) told) found.fault

  fault_cut : (text : List ℕ) (cause : PutAll) → Stopped before.sink text after.sink cause → IsOk chosen → MayWrite tells chosen text before after
      → TellsFault chosen status.SinkFault before after
  fault_cut text cause stopped ok (inl word) = absurd (good_words chosen word.word word.is ok)
  fault_cut text cause stopped ok (inr (inl fault)) = line_told (λ line. (why : PutAll) × Stopped before.sink line after.sink why) text fault (cause, stopped)
  fault_cut text cause stopped ok (inr (inr report)) =
      if_follows before.source.left (λ bytes. (name : FaultName) (byte : ℕ) → IsFault bytes name byte → ⊥)
      (λ bytes. (name : FaultName) (byte : ℕ) → IsFault bytes name byte → (why : PutAll) × Stopped before.sink (fault_line name byte) after.sink why)
      (λ bytes none name byte fault. absurd (none name byte fault)) (faultless report.0 text report.1)

  -- each fault of the source's bytes is told
  pub fault_told : (now : Status) → IsRun tells chosen now before after → IsOk chosen → TellsFault chosen now before after
  fault_told status.Fine took ok = faultless status.Fine took.text took.is
  fault_told status.SomeFailed took ok = faultless status.SomeFailed took.text took.is
  fault_told status.Words took ok = absurd (good_words chosen took.is.word took.is.is ok)
  fault_told status.Script took ok = line_told (λ line. TookAll before.sink line after.sink) took.text took.is took.took
  fault_told status.SourceFault failed ok =
      if_any before.source.left (λ bytes. (name : FaultName) (byte : ℕ) → IsFault bytes name byte → SourceFailed chosen before after) (λ bytes name byte fault. failed)
  fault_told status.SinkFault cut ok = fault_cut cut.text cut.cause cut.stopped ok cut.may
  fault_told status.Memory none ok =
      if_any before.source.left (λ bytes. (name : FaultName) (byte : ℕ) → IsFault bytes name byte → NoMemory chosen before after) (λ bytes name byte fault. none)

  -- the bytes of a fault's line are no script
  no_script : (text : List ℕ) → IsFaultLine chosen text before after → IfSome before.source.left (λ bytes. IsNoScript bytes)
  no_script text found = if_follows before.source.left (λ bytes. IsFault bytes found.name found.byte) (λ bytes. IsNoScript bytes)
      (λ bytes fault s script. no_fault_too bytes s found.name found.byte script fault) found.fault

  pub never_script : (now : Status) → IsRun tells chosen now before after → now ≡ status.Script → IfSome before.source.left (λ bytes. IsNoScript bytes)
  never_script now answers is = let took = at_status tells chosen before after now status.Script is answers in no_script took.text took.is

  -- where no count rose, a script is reported on
  pub answered : (now : Status) → IsRun tells chosen now before after → IsOk chosen → IsCalm before.source.faults after.source.faults → SinkCalm before.sink after.sink
      → IfSome before.source.left (λ bytes. IsAnswered bytes now)
  answered status.Fine took ok calm kept = if_any before.source.left (λ bytes. IsAnswered bytes status.Fine) (λ bytes s script. inl (inl refl))
  answered status.SomeFailed took ok calm kept = if_any before.source.left (λ bytes. IsAnswered bytes status.SomeFailed) (λ bytes s script. inl (inr refl))
  answered status.Words took ok calm kept = absurd (good_words chosen took.is.word took.is.is ok)
  answered status.Script took ok calm kept = if_follows before.source.left (λ bytes. IsNoScript bytes) (λ bytes. IsAnswered bytes status.Script)
      (λ bytes never s script. absurd (never s script)) (no_script took.text took.is)
  answered status.SourceFault failed ok calm kept = absurd (calm_never before.source.faults after.source.faults calm failed.rose)
  answered status.SinkFault cut ok calm kept = absurd (calm_uncut before.sink after.sink kept (sink_rose cut))
  answered status.Memory none ok calm kept = if_any before.source.left (λ bytes. IsAnswered bytes status.Memory) (λ bytes s script. inr refl)
