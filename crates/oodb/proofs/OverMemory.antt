-- A run over a source that never fails and a sink that tells what it took.
use Rattle.std.proofs.Common.{◌≡◌, ℕ, ◌<◌, true, List, [], ◌++◌, Option, Some, Result, IsOk, IfSome, inl, inr, refl, sym, ◌∙◌, ap, subst, arith, Err}
use Rattle.hv_io.specs.Bytes.{Seen}
use Rattle.hv_io.specs.Putting.{TookAll}
use Rattle.hv_script.specs.declared.words.Options.{Options}
use Rattle.hv_model.specs.Script.{IsScript, IsFault}
use Rattle.hv_model.proofs.Premises.{legal_under}
use Rattle.hv_script.proofs.Once.{no_fault_too}
use Rattle.oodb.specs.declared.status.Status.{Status}
use Rattle.oodb.specs.declared.status.Status.TheVariants as status
use Rattle.oodb.specs.Lines.{word_line}
use Rattle.hv_world.specs.Known.{Known}
use Rattle.oodb.specs.Causes.{IsCalm, all_landed}
use Rattle.oodb.specs.Outcome.{Around, TookReport, TookWordLine, TookFaultLine, IsRun, max_of_words}
use Rattle.oodb.specs.InMemory.{Reports, IsEnd, TellsItsFault, IsLineOf, ReportsItsScript}
use Rattle.oodb.proofs.Running.{at_status}
use Rattle.oodb.proofs.Statuses.{good_words, calm_never, same_line}

-- what holds of the value that there may be, at the one that there is
if_some_at : {X : Type 0} (o : Option X) (y : X) (P : X → Type 0) → o ≡ Some y → IfSome o P → P y
if_some_at o y P e h = subst (λ (p : Option _). IfSome p P) e h

-- all that was taken is the text
taken_is : (before after : Seen) (text report : List ℕ) → before.taken ≡ Some [] → after.taken ≡ Some report → TookAll before text after → report ≡ text
taken_is before after text report empty full took =
    let text_is : after.taken ≡ Some text = if_some_at before.taken [] (λ bs. after.taken ≡ Some (bs ++ text)) empty took.taken in
    let same : Some report ≡ Some text = sym full ∙ text_is in cc

-- one word at fault
same_word : (chosen : Result Options ℕ) (i j : ℕ) → chosen ≡ Err i → chosen ≡ Err j → i ≡ j
same_word chosen i j one other = cc

-- a count that is at none is calm
pub calm_at_none : IsCalm 0 0
calm_at_none = let below : 0 < 18446744073709551615 = omega arith in record { same = refl; below = below }

-- what is known of the source and the sink: the bytes that went in, and those that came out
pub record OverMemory {File : Type 0} (bytes report : List ℕ) (before after : Around File) : Type 0 where
  pub left : before.source.left ≡ Some bytes
  pub faultless : IsCalm before.source.faults after.source.faults
  pub empty : before.sink.taken ≡ Some []
  pub full : after.sink.taken ≡ Some report

module _ {File : Type 0} (chosen : Result Options ℕ) (bytes report : List ℕ) (before after : Around File) (over : OverMemory bytes report before after) where
  -- the report
  pub reports : (now : Status) → IsCalm before.device.faults after.device.faults → TookReport true chosen now before after → Reports bytes (max_of_words chosen) now report
  reports now calm took =
      let r = took.is in record {
        script = r.script;
        history = r.history;
        replies = r.replies;
        script_is = if_some_at before.source.left bytes (λ bs. IsScript bs r.script) over.left r.script_is;
        legal = legal_under (Unit {0}) (Known true r.script r.history (all_landed r.causes.landed)) (λ nothing. inl refl) r.script (max_of_words chosen) r.history _ r.legal;
        told = r.told;
        text = taken_is before.sink after.sink took.text report over.empty over.full took.took ∙ r.is;
        status = r.status;
        only = r.causes.calm refl calm;
      }

  -- the line of a word
  pub word_is : TookWordLine chosen before after → (i : ℕ) → chosen ≡ Err i → report ≡ word_line i
  word_is took i bad =
      taken_is before.sink after.sink took.text report over.empty over.full took.took ∙ took.is.line ∙ ap word_line (same_word chosen took.is.word i took.is.is bad)

  -- the line of a fault
  pub line_is : TookFaultLine chosen before after → IsLineOf bytes report
  line_is took = record {
    name = took.is.name;
    byte = took.is.byte;
    fault = if_some_at before.source.left bytes (λ bs. IsFault bs took.is.name took.is.byte) over.left took.is.fault;
    is = taken_is before.sink after.sink took.text report over.empty over.full took.took ∙ took.is.line;
  }

  -- it ends with a report or the line of a word or of a fault
  pub ends : (now : Status) → ¬ (now ≡ status.SinkFault) → ¬ (now ≡ status.Memory) → IsRun true chosen now before after → IsEnd now
  ends status.Fine uncut memory took = inl (inl refl)
  ends status.SomeFailed uncut memory took = inl (inr refl)
  ends status.Words uncut memory took = inr (inl refl)
  ends status.Script uncut memory took = inr (inr refl)
  ends status.SourceFault uncut memory failed = absurd (calm_never before.source.faults after.source.faults over.faultless failed.rose)
  ends status.SinkFault uncut memory cut = absurd (uncut refl)
  ends status.Memory uncut memory none = absurd (memory refl)

  -- a word at fault, and nothing else, has its line
  pub word_told : (i : ℕ) (now : Status) → chosen ≡ Err i → IsRun true chosen now before after → ¬ (now ≡ status.SinkFault) → (now ≡ status.Words) × (report ≡ word_line i)
  word_told i status.Fine bad took uncut = absurd (good_words chosen i bad took.is.words)
  word_told i status.SomeFailed bad took uncut = absurd (good_words chosen i bad took.is.words)
  word_told i status.Words bad took uncut = (refl, word_is took i bad)
  word_told i status.Script bad took uncut = absurd (good_words chosen i bad took.is.words)
  word_told i status.SourceFault bad failed uncut = absurd (good_words chosen i bad failed.words)
  word_told i status.SinkFault bad cut uncut = absurd (uncut refl)
  word_told i status.Memory bad none uncut = absurd (good_words chosen i bad none.words)

  -- a fault of the bytes, and nothing else, has its line
  pub tells_fault : (now : Status) → ¬ (now ≡ status.SinkFault) → ¬ (now ≡ status.Memory) → IsRun true chosen now before after → IsOk chosen → TellsItsFault bytes now report
  tells_fault status.Fine uncut memory took ok name byte fault = absurd (no_fault_too bytes took.is.script name byte (if_some_at before.source.left bytes (λ bs. IsScript bs took.is.script) over.left took.is.script_is) fault)
  tells_fault status.SomeFailed uncut memory took ok name byte fault = absurd (no_fault_too bytes took.is.script name byte (if_some_at before.source.left bytes (λ bs. IsScript bs took.is.script) over.left took.is.script_is) fault)
  tells_fault status.Words uncut memory took ok name byte fault = absurd (good_words chosen took.is.word took.is.is ok)
  tells_fault status.Script uncut memory took ok name byte fault = let line = line_is took in (refl, line.is ∙ same_line bytes line.name name line.byte byte line.fault fault)
  tells_fault status.SourceFault uncut memory failed ok name byte fault = absurd (calm_never before.source.faults after.source.faults over.faultless failed.rose)
  tells_fault status.SinkFault uncut memory cut ok name byte fault = absurd (uncut refl)
  tells_fault status.Memory uncut memory none ok name byte fault = absurd (memory refl)

  -- the bytes of a script are reported on
  pub completes : (now : Status) → ¬ (now ≡ status.SinkFault) → ¬ (now ≡ status.Memory) → IsRun true chosen now before after → IsOk chosen → ReportsItsScript bytes now
  completes status.Fine uncut memory took ok s script = inl refl
  completes status.SomeFailed uncut memory took ok s script = inr refl
  completes status.Words uncut memory took ok s script = absurd (good_words chosen took.is.word took.is.is ok)
  completes status.Script uncut memory took ok s script = let line = line_is took in absurd (no_fault_too bytes s line.name line.byte script line.fault)
  completes status.SourceFault uncut memory failed ok s script = absurd (calm_never before.source.faults after.source.faults over.faultless failed.rose)
  completes status.SinkFault uncut memory cut ok s script = absurd (uncut refl)
  completes status.Memory uncut memory none ok s script = absurd (memory refl)

  -- and no other status is theirs
  pub words_alone : (now : Status) → IsRun true chosen now before after → IsOk chosen → ¬ (now ≡ status.Words)
  words_alone now answers ok is = let took = at_status true chosen before after now status.Words is answers in good_words chosen took.is.word took.is.is ok

  pub fault_alone : (now : Status) → IsRun true chosen now before after → now ≡ status.Script → IsOk chosen × IsLineOf bytes report
  fault_alone now answers is = let took = at_status true chosen before after now status.Script is answers in (took.is.words, line_is took)
