-- A world of sessions as clauses see it, and what its calls owe. This project's own.
use Rattle.std.specs.Prelude.{◌≡◌, ◌≢◌, ◌⊎◌, ℕ, ◌+◌, ◌<◌, ◌≤◌, Bool, nat_lt, nat_le, List, [], ◌∷◌, ◌++◌, length, map, Option, Some, None, IsSome, count_by, slice_get, fold, if◌then◌else◌}
use Rattle.std.specs.List.{flat_map}
use Rattle.hv_dev.specs.Reading.{Landing, Back, came_back}
use Rattle.hv_io.specs.Counts.{Rose}
use Rattle.hv_view.specs.View.{Viewed}
use Rattle.hv_model.specs.declared.script.Script.{Script}
use Rattle.hv_model.specs.declared.catalogue.Entry.{Entry}
use Rattle.hv_model.specs.declared.reply.Reply.{Reply}
use Rattle.hv_model.specs.declared.reply.Reply.TheVariants as reply
use Rattle.hv_model.specs.declared.reply.Failure.TheVariants as failure
use Rattle.hv_model.specs.Database.{empty_database}
use Rattle.hv_model.specs.Command.{database_after}
use Rattle.hv_model.specs.Legal.{reply_to, Stands}
use Rattle.hv_model.specs.Sessions.{count_before, with_reply, LegalInPhase}
use Rattle.hv_catalogue.specs.Holding.{Holding}
use Rattle.hv_report.specs.declared.report.Report.{Report}
use Rattle.hv_report.specs.declared.report.SessionReport.{SessionReport}
use Rattle.hv_world.specs.Known.{Known}
use Rattle.hv_world.specs.Causes.{CausedBy}
use Rattle.hv_world.specs.Reads.{PortSeen, IsStill, fresh_port}

-- a world: its script, the number of its present phase from 0, what the catalogue holds, the replies and the port of each session in order of naming,
-- the session that was picked last in this phase, and how many steps are left at most
pub record WorldSeen (File : Type 0) : Type 0 where
  pub script : Script
  pub phase : ℕ
  pub held : Holding (Viewed File)
  pub replies : List (List Reply)
  pub ports : List (PortSeen File)
  pub last : Option ℕ
  pub left : ℕ

-- all that landed, port by port
abbrev pub landings_of : {File : Type 0} → List (PortSeen File) → List (Landing File)
landings_of ports = flat_map (λ port. port.reading.landings) ports

-- the history and the replies so far are legal, with the present length as the most that a reply of the present phase may tell
abbrev pub IsLegalSoFar : {File : Type 0} → Bool → WorldSeen File → Type 0
IsLegalSoFar tells w = (max : ℕ) → LegalInPhase w.script max (Known tells w.script w.held.history (landings_of w.ports)) w.phase w.held.history w.replies

-- the failures among the replies of each session stand on what its port did; the files are those of all chunks ever made, by number
pub record AreCausedSoFar {File : Type 0} (tells : Bool) (w : WorldSeen File) : Type 0 where
  pub files : List File
  pub count : length files ≡ (database_after w.script w.held.history (length w.held.history)).made
  pub paired : length w.ports ≡ length w.replies
  pub each : (i : ℕ) (replies : List Reply) (port : PortSeen File) → slice_get w.replies i ≡ Some replies → slice_get w.ports i ≡ Some port
      → CausedBy tells w.script w.held.history replies port files

-- the places of the sessions that have statements left in a phase, in order of naming, numbered on from i
abbrev pub ready_from : Script → ℕ → ℕ → List (List ℕ) → List (List Reply) → List ℕ
ready_from s p i [] replies = []
ready_from s p i (name ∷ names) [] = []
ready_from s p i (name ∷ names) (of_session ∷ more) =
    if nat_lt (length of_session) (count_before s name (p + 1)) then i ∷ ready_from s p (i + 1) names more else ready_from s p (i + 1) names more

-- the places of the sessions that can take a step: those that have statements left in the present phase
abbrev pub ready_places : {File : Type 0} → WorldSeen File → List ℕ
ready_places w = ready_from w.script w.phase 0 w.script.sessions w.replies

-- each statement that has a reply has got it
abbrev pub IsDone : {File : Type 0} → WorldSeen File → Type 0
IsDone w = (x : _) → Stands w.script x → IsSome (reply_to w.script w.replies x)

-- how many sessions that can take a step stand at or before the one that was picked last in this phase: where the next one going round is
abbrev pub next_round : {File : Type 0} → WorldSeen File → Option ℕ → ℕ
next_round w None = 0
next_round w (Some last) = count_by (λ at. nat_le at last) (ready_places w)

-- a history is as before or has one entry more
abbrev pub GrowsByOne : List Entry → List Entry → Type 0
GrowsByOne before after = (after ≡ before) ⊎ ((e : Entry) × (after ≡ before ++ e ∷ []))

-- no reply was added; or one, to the session at this place
pub record RepliesOnce (at : ℕ) (before after : List (List Reply)) (r : Reply) : Type 0 where
  pub of_session : List Reply
  pub were : slice_get before at ≡ Some of_session
  pub are : after ≡ with_reply before at of_session r

-- what a statement's reply says of the counts of its port in the step that gave it: they rose where it tells so, and else neither did
abbrev pub CountsTell : {File : Type 0} → PortSeen File → PortSeen File → Reply → Type 0
CountsTell before after (reply.Done at what) = IsStill before after
CountsTell before after (reply.Rows at rows) = IsStill before after
CountsTell before after (reply.Refused at cause) = IsStill before after
CountsTell before after (reply.Failed at failure.Read) = Rose before.reading.read_faults after.reading.read_faults × (after.write_faults ≡ before.write_faults)
CountsTell before after (reply.Failed at failure.Write) = Rose before.write_faults after.write_faults × (after.reading ≡ before.reading)
CountsTell before after (reply.Failed at (failure.Damaged chunk page why)) = IsStill before after
CountsTell before after (reply.Failed at failure.Memory) = IsStill before after

-- the session at this place took a step: its statement goes on and neither count of its port rose, or it is answered and the counts rose as its reply tells
pub record TookStep {File : Type 0} (at : ℕ) (before after : WorldSeen File) : Type 0 where
  pub port : PortSeen File
  pub new : PortSeen File
  pub was : slice_get before.ports at ≡ Some port
  pub is : slice_get after.ports at ≡ Some new
  pub others : (other : ℕ) → other ≢ at → slice_get after.ports other ≡ slice_get before.ports other
  pub step : ((after.replies ≡ before.replies) × (after.held ≡ before.held) × IsStill port new)
      ⊎ ((r : Reply) × RepliesOnce at before.replies after.replies r × CountsTell port new r)

-- a pick of the session at this place: it took a step, the history grew by one entry at most, and fewer steps are left
pub record IsPick {File : Type 0} (at : ℕ) (before after : WorldSeen File) : Type 0 where
  pub script_is : after.script ≡ before.script
  pub grows : GrowsByOne before.held.history after.held.history
  pub step : TookStep at before after
  pub later : before.phase ≤ after.phase
  pub last : (after.phase ≡ before.phase → after.last ≡ Some at) × (before.phase < after.phase → after.last ≡ None)
  pub fewer : after.left < before.left

-- a world before its first step
pub record IsFresh {File : Type 0} (script : Script) (w : WorldSeen File) : Type 0 where
  pub script_is : w.script ≡ script
  pub empty : w.held ≡ record { database = empty_database; history = [] }
  pub no_reply : w.replies ≡ map (λ name. []) script.sessions
  pub ports_are : w.ports ≡ map (λ name. fresh_port File) script.sessions
  pub none : w.last ≡ None

-- the report of a world
abbrev pub sessions_of : List (List ℕ) → List (List Reply) → List SessionReport
sessions_of [] replies = []
sessions_of (name ∷ names) [] = []
sessions_of (name ∷ names) (of_session ∷ more) = (record { name = name; replies = of_session }) ∷ sessions_of names more

abbrev pub report_of : Script → List Entry → List (List Reply) → Report
report_of s history replies = record { sessions = sessions_of s.sessions replies; history = history; stats = None }

-- a device to which ports came back, in order
abbrev pub all_back : {File : Type 0} → Back File → List (PortSeen File) → Back File
all_back b ports = fold (λ back port. came_back back port.reading port.write_faults) b ports

-- a device of which so many ports more are out
abbrev pub ports_out : {File : Type 0} → ℕ → Back File → Back File
ports_out count b = record { faults = b.faults; submits = b.submits; most = b.most; landings = b.landings; out = b.out + count }
