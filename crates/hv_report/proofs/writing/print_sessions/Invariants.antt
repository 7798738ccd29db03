-- What is left to print are the sessions from the index on; the numbers of those before it are in range.
use Rattle.std.proofs.Common.{drop, take}
use Rattle.std.specs.List.{All}
use Rattle.hv_io.specs.Seen.{seen}
use Rattle.hv_model.specs.Report.{sessions_text}
use Rattle.hv_report.specs.Law.{SessionInRange}
use Rattle.hv_report.specs.Text.{names_of, replies_of}
use Rattle.hv_report.proofs.PrintedParts.{PrintsBut}
use Rattle.hv_report.proofs.writing.print_sessions.Given as goal

abbrev pub invariant-loop-session : goal.invariant-loop-session
invariant-loop-session g l = record {
  printed : PrintsBut (sessions_text (names_of l.fn.sessions) (replies_of l.fn.sessions))
      (sessions_text (names_of (drop l.session-index l.fn.sessions)) (replies_of (drop l.session-index l.fn.sessions)))
      (seen g.K.Sink l.fn.out) l.fn.printer (seen g.K.Sink l.out) l.printer;
  in_range : All SessionInRange (take l.session-index l.fn.sessions);
}
