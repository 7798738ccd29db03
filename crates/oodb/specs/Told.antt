-- What makes the bytes of a report tell one history and one list of replies to each session. This project's own.
use Rattle.std.specs.Prelude.{◌≡◌, ◌≢◌, List, length}
use Rattle.std.specs.List.{AllPairs, AllZip}
use Rattle.hv_model.specs.declared.script.Script.{Script}
use Rattle.hv_model.specs.declared.catalogue.Entry.{Entry}
use Rattle.hv_model.specs.declared.reply.Reply.{Reply}
use Rattle.hv_model.specs.Report.{report_text}
use Rattle.hv_report.specs.Law.{Named, InRange, SameReply}
use Rattle.hv_world.specs.World.{report_of}

-- there is a list of replies for each of the script's sessions, whose names differ; names are plain and the numbers in the range of their types
pub record IsTold (script : Script) (history : List Entry) (replies : List (List Reply)) : Type 0 where
  pub lists : length replies ≡ length script.sessions
  pub distinct : AllPairs (λ x y. x ≢ y) script.sessions
  pub named : Named (report_of script history replies)
  pub in_range : InRange (report_of script history replies)

-- one report tells one history and one list of replies to each session, also where that is empty and isn't printed, but for why a page did not serve
abbrev pub OneHistory : Type 0
OneHistory = (script : Script) (history other : List Entry) (replies others : List (List Reply)) → IsTold script history replies → IsTold script other others
    → report_text script history replies ≡ report_text script other others → (history ≡ other) × AllZip (AllZip SameReply) replies others
