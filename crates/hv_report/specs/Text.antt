-- The bytes of a report with its statistics. This project's own.
use Rattle.std.specs.Prelude.{ℕ, List, [], ◌++◌, map, codes, Option, Some, None}
use Rattle.std.specs.Fmt.{decimal}
use Rattle.hv_model.specs.declared.reply.Reply.{Reply}
use Rattle.hv_model.specs.Report.{history_text, sessions_text}
use Rattle.hv_report.specs.declared.report.Report.{Report}
use Rattle.hv_report.specs.declared.report.SessionReport.{SessionReport}
use Rattle.hv_report.specs.declared.report.Stats.{Stats}

-- the sessions' names, in order
abbrev pub names_of : List SessionReport → List (List ℕ)
names_of sessions = map (λ s. s.name) sessions

-- the sessions' replies, in order
abbrev pub replies_of : List SessionReport → List (List Reply)
replies_of sessions = map (λ s. s.replies) sessions

-- the last line, where there are statistics
abbrev pub stats_text : Option Stats → List ℕ
stats_text None = []
stats_text (Some s) = codes "stats tasks " ++ decimal s.tasks ++ codes " reads " ++ decimal s.reads ++ codes " submits " ++ decimal s.submits ++ codes "\n"

-- the whole report
abbrev pub text_of : Report → List ℕ
text_of r = sessions_text (names_of r.sessions) (replies_of r.sessions) ++ history_text r.history ++ stats_text r.stats
