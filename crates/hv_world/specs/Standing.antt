-- What is known of a world of sessions between two of its steps. This project's own.
use Rattle.std.specs.Prelude.{◌≡◌, ◌⊎◌, ℕ, Bool, List, ◌++◌, length, Some, slice_get}
use Rattle.hv_view.specs.View.{Viewed}
use Rattle.hv_model.specs.declared.script.Script.{Script}
use Rattle.hv_model.specs.declared.script.Statement.{Statement}
use Rattle.hv_model.specs.declared.catalogue.Entry.{Entry}
use Rattle.hv_model.specs.declared.reply.Reply.{Reply}
use Rattle.hv_model.specs.Command.{database_after}
use Rattle.hv_model.specs.Sessions.{HasSessions, LegalInPhase, IsNext, IsSeen}
use Rattle.hv_catalogue.specs.Holding.{Holding}
use Rattle.hv_world.specs.declared.stage.Look.{Look}
use Rattle.hv_world.specs.declared.stage.Stage.{Stage}
use Rattle.hv_world.specs.declared.stage.Stage.TheVariants.{Unbegun}
use Rattle.hv_world.specs.Stored.{database_of, IsSound, AreFiles}
use Rattle.hv_world.specs.Known.{Known}
use Rattle.hv_world.specs.Causes.{CausedBy}
use Rattle.hv_world.specs.Reads.{PortSeen, IsIdle}
use Rattle.hv_world.specs.Stage.{IsStaged, look_of}
use Rattle.hv_world.specs.World.{landings_of}

-- what the catalogue held when a statement of a session looked is a past of what it holds now: its history is a front, its files are the first, and its
-- length may be told
pub record IsPast {File : Type 0} (s : Script) (p : ℕ) (now : Holding (Viewed File)) (replies : List (List Reply)) (files : List File) (of_session : List Reply) (past : Holding (Viewed File)) : Type 0 where
  pub more : List Entry
  pub longer : now.history ≡ past.history ++ more
  pub database : database_of past ≡ database_after s past.history (length past.history)
  pub first : List File
  pub rest : List File
  pub are : AreFiles past first
  pub all : files ≡ first ++ rest
  pub seen : IsSeen s p now.history replies of_session (length past.history)

-- a session with no statement under way
pub record IsResting {File : Type 0} (stage : Stage File) (port : PortSeen File) : Type 0 where
  pub unbegun : stage ≡ Unbegun
  pub idle : IsIdle port

-- the statement of a session that is under way
pub record IsUnderWay {File : Type 0} (tells : Bool) (pages : File → List (List ℕ)) (s : Script) (p : ℕ) (now : Holding (Viewed File)) (replies : List (List Reply)) (files : List File) (at : ℕ) (of_session : List Reply) (port : PortSeen File) (stage : Stage File) : Type 0 where
  pub statement : Statement
  pub next : IsNext s p replies statement at of_session
  pub staged : IsStaged tells pages statement now stage port
  pub look : Look File
  pub looked : look_of stage ≡ Some look
  pub past : IsPast s p now replies files of_session look.held.value

-- a session between two steps
abbrev pub SessionStands : {File : Type 0} → Bool → (File → List (List ℕ)) → Script → ℕ → Holding (Viewed File) → List (List Reply) → List File → ℕ → List Reply → PortSeen File → Stage File → Type 0
SessionStands tells pages s p now replies files at of_session port stage =
    IsResting stage port ⊎ IsUnderWay tells pages s p now replies files at of_session port stage

-- a world between two steps: what was answered is legal, what failed has its cause, and each session stands
pub record IsWorld {File : Type 0} (tells : Bool) (pages : File → List (List ℕ)) (s : Script) (p : ℕ) (now : Holding (Viewed File)) (replies : List (List Reply)) (ports : List (PortSeen File)) (stages : List (Stage File)) (files : List File) : Type 0 where
  pub has : HasSessions s
  pub legal : (max : ℕ) → LegalInPhase s max (Known tells s now.history (landings_of ports)) p now.history replies
  pub database : database_of now ≡ database_after s now.history (length now.history)
  pub sound : IsSound tells pages now
  pub are : AreFiles now files
  pub ports_paired : length ports ≡ length replies
  pub stages_paired : length stages ≡ length replies
  pub caused : (i : ℕ) (rs : List Reply) (port : PortSeen File) → slice_get replies i ≡ Some rs → slice_get ports i ≡ Some port → CausedBy tells s now.history rs port files
  pub stands : (i : ℕ) (rs : List Reply) (port : PortSeen File) (stage : Stage File) → slice_get replies i ≡ Some rs → slice_get ports i ≡ Some port → slice_get stages i ≡ Some stage
      → SessionStands tells pages s p now replies files i rs port stage
