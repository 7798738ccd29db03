-- What one step makes of a session, and what begins a phase. This project's own.
use Rattle.std.specs.Prelude.{◌≡◌, ℕ, ◌<◌, ◌≤◌, max, Bool, List, [], ◌∷◌, ◌++◌, length, Some, vec_capacity, slice_get}
use Rattle.hv_dev.specs.declared.sink.PageSink.{Ghosts}
use Rattle.hv_view.specs.View.{Viewed}
use Rattle.hv_model.specs.declared.script.Script.{Script}
use Rattle.hv_model.specs.declared.script.Statement.{Statement}
use Rattle.hv_model.specs.Sessions.{last_number}
use Rattle.hv_catalogue.specs.Holding.{Holding}
use Rattle.hv_world.specs.declared.stage.Step.{Step}
use Rattle.hv_world.specs.declared.stage.Step.TheVariants.{Goes, Answered}
use Rattle.hv_world.specs.declared.stage.Stage.TheVariants.{Unbegun}
use Rattle.hv_world.specs.declared.session.Session.{Session}
use Rattle.hv_world.specs.declared.turns.Turn.{Turn}
use Rattle.hv_world.specs.Reads.{port_seen}
use Rattle.hv_world.specs.Stage.{IsStaged}
use Rattle.hv_world.specs.Step.{IsStep}
use Rattle.hv_world.specs.Turns.{next_turn}

-- the statement of a session's next reply stands at the place of its next turn
pub record IsNextOf {P File : Type 0} (s : Script) (q : Session P File) (x : Statement) : Type 0 where
  pub turn : Turn
  pub next : next_turn q ≡ Some turn
  pub phase : List Statement
  pub phase_is : slice_get s.phases turn.phase ≡ Some phase
  pub stands : slice_get phase turn.place ≡ Some x

-- a session that can take a step of its next statement
pub record CanStep {P File : Type 0} (tells : Bool) (pages : File → List (List ℕ)) (sink : Ghosts P File) (s : Script) (now : Holding (Viewed File)) (q : Session P File) : Type 0 where
  pub statement : Statement
  pub next : IsNextOf s q statement
  pub text : length statement.text ≤ 67108864
  pub staged : IsStaged tells pages statement now q.stage (port_seen sink q.access.port)
  pub room : length q.replies.items < vec_capacity q.replies

-- the session's stage and replies behind a step
abbrev pub Becomes : {P File : Type 0} → Session P File → Session P File → Step File → Type 0
Becomes q new (Goes next) = (new.stage ≡ next) × (new.replies.items ≡ q.replies.items)
Becomes q new (Answered r) = (new.stage ≡ Unbegun) × (new.replies.items ≡ q.replies.items ++ r ∷ [])

-- the session took a step of its next statement
pub record HasStepped {P File : Type 0} (tells : Bool) (pages : File → List (List ℕ)) (sink : Ghosts P File) (x : Statement) (floor : ℕ) (before after : Holding (Viewed File)) (q new : Session P File) : Type 0 where
  pub step : Step File
  pub is : IsStep tells pages x floor before after q.stage (port_seen sink q.access.port) (port_seen sink new.access.port) step
  pub becomes : Becomes q new step
  pub turns : new.turns.items ≡ q.turns.items
  pub room : vec_capacity new.replies ≡ vec_capacity q.replies

-- the least number that a session's next reply may tell
abbrev pub floor_of : {P File : Type 0} → ℕ → Session P File → ℕ
floor_of barrier q = max barrier (last_number q.replies.items)
