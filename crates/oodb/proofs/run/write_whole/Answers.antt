-- What was written is the report's text.
use Rattle.std.proofs.Common.{◌∙◌, List, ap, subst}
use Rattle.hv_io.specs.Seen.{seen}
use Rattle.hv_report.specs.Text.{replies_of, text_of}
use Rattle.hv_report.specs.declared.report.SessionReport.{SessionReport}
use Rattle.oodb.specs.Outcome.{WholeOrCut, status_of}
use Rattle.oodb.specs.declared.status.Status.{Status}
use Rattle.oodb.proofs.run.write_whole.Goals as goal

pub returns-clause-over : goal.returns-clause-over
returns-clause-over g c =
    subst (λ (full : Status). WholeOrCut (text_of c.args.report.now) full c.written_status.result (seen g.K.Sink c.args.out.now) (seen g.K.Sink c.write_report.new.out))
    (c.full_status-full.ensures ∙ ap (λ (sessions : List SessionReport). status_of (replies_of sessions)) c.as_slice.ensures)
    (c.written_status.ensures _ _ _ (record { all = c.write_report.ensures.all; part = c.write_report.ensures.part }))

pub returns-clause-in_range : goal.returns-clause-in_range
returns-clause-in_range g c = c.write_report.ensures.in_range
