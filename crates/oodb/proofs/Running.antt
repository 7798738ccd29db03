-- What became of a run, from what became of its parts.
use Rattle.std.proofs.Common.{◌≡◌, ℕ, Bool, true, false, List, Result, Err, IsOk, IfSome, inl, inr, refl, sym, ◌∙◌, ap, subst, if◌then◌else◌}
use Rattle.std.specs.List.{list_any}
use Rattle.hv_script.specs.declared.words.Options.{Options}
use Rattle.hv_model.specs.declared.script.FaultName.{FaultName}
use Rattle.hv_model.specs.declared.reply.Reply.{Reply}
use Rattle.hv_model.specs.Script.{IsFault}
use Rattle.hv_model.proofs.Mapped.{list_any-map}
use Rattle.hv_report.specs.Text.{replies_of}
use Rattle.hv_report.specs.declared.report.SessionReport.{SessionReport}
use Rattle.oodb.specs.declared.status.Status.{Status}
use Rattle.oodb.specs.declared.status.Status.TheVariants as status
use Rattle.oodb.specs.Lines.{fault_line, word_line}
use Rattle.oodb.specs.Outcome.{Around, WholeOrCut, IsWordLine, IsFaultLine, IsReport, TookReport, IsRun, IsReported, status_of, is_failed}

-- a report has one of two statuses
pub reported_status : (replies : List (List Reply)) → IsReported (status_of replies)
reported_status replies = elim (list_any (list_any is_failed) replies) as (λ b. IsReported (if b then status.SomeFailed else status.Fine)) [ true ↦ inr refl | false ↦ inl refl ]

-- the status of a report, by whether a reply of some session failed
pub status_by : (sessions : List SessionReport) (some b : Bool) → some ≡ list_any (λ (session : SessionReport). list_any is_failed session.replies) sessions → some ≡ b
    → (if b then status.SomeFailed else status.Fine) ≡ status_of (replies_of sessions)
status_by sessions some b is at =
    ap (λ (v : Bool). if v then status.SomeFailed else status.Fine)
    (sym at ∙ is ∙ sym (list_any-map (λ (session : SessionReport). session.replies) (list_any is_failed) sessions))

module _ {File : Type 0} (tells : Bool) (chosen : Result Options ℕ) (before after : Around File) where
  -- the branch of a status that is another by an equation
  pub at_status : (now is : Status) → now ≡ is → IsRun tells chosen now before after → IsRun tells chosen is before after
  at_status now is same answers = subst (λ s. IsRun tells chosen s before after) same answers

  -- a report that was taken, by either status
  taken_report : (now : Status) → IsReported now → TookReport tells chosen now before after → IsRun tells chosen now before after
  taken_report now (inl fine) took = at_status status.Fine now (sym fine) (subst (λ s. TookReport tells chosen s before after) fine took)
  taken_report now (inr some) took = at_status status.SomeFailed now (sym some) (subst (λ s. TookReport tells chosen s before after) some took)

  pub report_taken : (now : Status) → IsReported now → IsRun tells chosen now before after → TookReport tells chosen now before after
  report_taken now (inl fine) answers = subst (λ s. TookReport tells chosen s before after) (sym fine) (at_status now status.Fine fine answers)
  report_taken now (inr some) answers = subst (λ s. TookReport tells chosen s before after) (sym some) (at_status now status.SomeFailed some answers)

  -- the line of a word was written
  pub word_over : (i : ℕ) (now : Status) → chosen ≡ Err i → after.source ≡ before.source → after.device ≡ before.device
      → WholeOrCut (word_line i) status.Words now before.sink after.sink → IsRun tells chosen now before after
  word_over i now is unread still over =
      let line : IsWordLine chosen (word_line i) before after = record { word = i; is = is; unread = unread; still = still; line = refl } in
      elim over [
        | inl whole ↦ at_status status.Words now (sym whole.status) (record { text = word_line i; is = line; took = whole.took })
        | inr cut ↦ at_status status.SinkFault now (sym cut.status) (record { text = word_line i; may = inl line; cause = cut.cause; stopped = cut.stopped })
      ]

  -- the line of a fault was
  pub fault_over : (name : FaultName) (byte : ℕ) (now : Status) → IsOk chosen → after.source.faults ≡ before.source.faults
      → IfSome before.source.left (λ bytes. IsFault bytes name byte) → after.device ≡ before.device
      → WholeOrCut (fault_line name byte) status.Script now before.sink after.sink → IsRun tells chosen now before after
  fault_over name byte now words calm fault still over =
      let line : IsFaultLine chosen (fault_line name byte) before after
      = record { words = words; calm = calm; name = name; byte = byte; fault = fault; still = still; line = refl } in
      elim over [
        | inl whole ↦ at_status status.Script now (sym whole.status) (record { text = fault_line name byte; is = line; took = whole.took })
        | inr cut ↦ at_status status.SinkFault now (sym cut.status) (record { text = fault_line name byte; may = inr (inl line); cause = cut.cause; stopped = cut.stopped })
      ]

  -- a report was
  pub report_over : (text : List ℕ) (full now : Status) → (report : IsReport tells chosen full text before after)
      → WholeOrCut text full now before.sink after.sink → IsRun tells chosen now before after
  report_over text full now report over = elim over [
    | inl whole ↦ at_status full now (sym whole.status) (taken_report full (subst IsReported (sym report.status) (reported_status report.replies)) (record { text = text; is = report; took = whole.took }))
    | inr cut ↦ at_status status.SinkFault now (sym cut.status) (record { text = text; may = inr (inr (full, report)); cause = cut.cause; stopped = cut.stopped })
  ]
