-- Where the statements of each session stand in a script, and what a world's fields are. This project's own.
use Rattle.std.specs.Prelude.{◌≡◌, ℕ, ◌+◌, ◌-◌, ◌*◌, ◌≤◌, min, nat_le, Bool, false, List, [], length, map, take, Option, Some, None, vec_capacity, count_by, slice_get}
use Rattle.std.specs.List.{sum_by}
use Rattle.hv_row.specs.Schema.{same_name}
use Rattle.hv_dev.specs.declared.sink.PageSink.{Ghosts}
use Rattle.hv_view.specs.View.{Viewed}
use Rattle.hv_model.specs.declared.script.Script.{Script}
use Rattle.hv_model.specs.declared.script.Statement.{Statement}
use Rattle.hv_model.specs.declared.reply.Reply.{Reply}
use Rattle.hv_model.specs.Legal.{count_of_session, done_before}
use Rattle.hv_model.specs.Sessions.{HasBounds, count_before}
use Rattle.hv_catalogue.specs.Holding.{Holding}
use Rattle.hv_world.specs.declared.stage.Stage.{Stage}
use Rattle.hv_world.specs.declared.stage.Stage.TheVariants.{Unbegun}
use Rattle.hv_world.specs.declared.session.Session.{Session}
use Rattle.hv_world.specs.declared.turns.Turn.{Turn}
use Rattle.hv_world.specs.Reads.{PortSeen, port_seen, fresh_port}
use Rattle.hv_world.specs.Stage.{left_of, most_steps}
use Rattle.hv_world.specs.World.{WorldSeen, ready_from}
use Rattle.hv_world.specs.Standing.{IsWorld}

-- the statement of a session behind so many of its others stands at this place
pub record IsTurn (s : Script) (name : List ℕ) (k : ℕ) (turn : Turn) : Type 0 where
  pub phase : List Statement
  pub statement : Statement
  pub phase_is : slice_get s.phases turn.phase ≡ Some phase
  pub stands : slice_get phase turn.place ≡ Some statement
  pub session : statement.session ≡ name
  pub counted : k ≡ count_before s name turn.phase + count_by (λ y. same_name y.session name) (take turn.place phase)

-- these are the places of the first n statements of a session, in order
pub record AreTurnsTo (s : Script) (name : List ℕ) (n : ℕ) (turns : List Turn) : Type 0 where
  pub count : length turns ≡ n
  pub each : (k : ℕ) (turn : Turn) → slice_get turns k ≡ Some turn → IsTurn s name k turn

-- these are those of all
abbrev pub AreTurns : Script → List ℕ → List Turn → Type 0
AreTurns s name turns = AreTurnsTo s name (count_of_session s name) turns

-- how many steps are left of a session at most: all of each statement without a reply, but for what is done of the next one
abbrev pub session_left : {P File : Type 0} → Session P File → ℕ
session_left q = (length q.turns.items - length q.replies.items) * most_steps + left_of q.stage - most_steps

abbrev pub replies_of : {P File : Type 0} → List (Session P File) → List (List Reply)
replies_of sessions = map (λ q. q.replies.items) sessions

abbrev pub ports_of : {P File : Type 0} → Ghosts P File → List (Session P File) → List (PortSeen File)
ports_of sink sessions = map (λ q. port_seen sink q.access.port) sessions

abbrev pub stages_of : {P File : Type 0} → List (Session P File) → List (Stage File)
stages_of sessions = map (λ q. q.stage) sessions

-- the world of these fields
abbrev pub world_of : {P File : Type 0} → Ghosts P File → Script → ℕ → Holding (Viewed File) → List (Session P File) → Option ℕ → WorldSeen File
world_of sink s p held sessions last = record {
  script = s;
  phase = p;
  held = held;
  replies = replies_of sessions;
  ports = ports_of sink sessions;
  last = last;
  left = sum_by session_left sessions;
}

-- the place of a session's next statement, if one is left
abbrev pub next_turn : {P File : Type 0} → Session P File → Option Turn
next_turn q = slice_get q.turns.items (length q.replies.items)

-- the earlier of a phase and that of a statement
abbrev pub earlier : Option ℕ → Option Turn → Option ℕ
earlier None None = None
earlier None (Some turn) = Some turn.phase
earlier (Some p) None = Some p
earlier (Some p) (Some turn) = Some (min p turn.phase)

-- whether a next statement stands in the phases up to this one
abbrev pub is_due : Option Turn → ℕ → Bool
is_due None p = false
is_due (Some turn) p = nat_le turn.phase p

-- no next statement stands in a phase before this one, and one stands there
pub record IsFirstPhase {P File : Type 0} (sessions : List (Session P File)) (p : ℕ) : Type 0 where
  pub least : (i : ℕ) (q : Session P File) (turn : Turn) → slice_get sessions i ≡ Some q → next_turn q ≡ Some turn → p ≤ turn.phase
  pub at : ℕ
  pub session : Session P File
  pub stands : slice_get sessions at ≡ Some session
  pub turn : Turn
  pub next : next_turn session ≡ Some turn
  pub phase : turn.phase ≡ p

-- the first phase in which a session has a statement left; none where no session has one
abbrev pub IsNextPhase : {P File : Type 0} → List (Session P File) → Option ℕ → Type 0
IsNextPhase {P} {File} sessions None = (i : ℕ) (q : Session P File) → slice_get sessions i ≡ Some q → next_turn q ≡ None
IsNextPhase sessions (Some p) = IsFirstPhase sessions p

-- sessions of these names have the places of their statements
pub record HaveTurns {P File : Type 0} (s : Script) (names : List (List ℕ)) (sessions : List (Session P File)) : Type 0 where
  pub paired : length sessions ≡ length names
  pub each : (i : ℕ) (name : List ℕ) (q : Session P File) → slice_get names i ≡ Some name → slice_get sessions i ≡ Some q → AreTurns s name q.turns.items

-- what is true of each session beside its statement
pub record HasTurns {P File : Type 0} (s : Script) (name : List ℕ) (q : Session P File) : Type 0 where
  pub turns : AreTurns s name q.turns.items
  pub room : length q.turns.items ≤ vec_capacity q.replies

-- a session that has done nothing yet
pub record IsFreshSession {P File : Type 0} (sink : Ghosts P File) (s : Script) (name : List ℕ) (q : Session P File) : Type 0 where
  pub port : port_seen sink q.access.port ≡ fresh_port File
  pub unbegun : q.stage ≡ Unbegun
  pub no_reply : q.replies.items ≡ []
  pub its : HasTurns s name q

-- the sessions of these names have done nothing yet
pub record AreFresh {P File : Type 0} (sink : Ghosts P File) (s : Script) (names : List (List ℕ)) (sessions : List (Session P File)) : Type 0 where
  pub paired : length sessions ≡ length names
  pub each : (i : ℕ) (name : List ℕ) (q : Session P File) → slice_get names i ≡ Some name → slice_get sessions i ≡ Some q → IsFreshSession sink s name q

-- the ports of sessions have read nothing
abbrev pub AreUnread : {P File : Type 0} → Ghosts P File → List (Session P File) → Type 0
AreUnread {P} {File} sink sessions = (i : ℕ) (q : Session P File) → slice_get sessions i ≡ Some q → port_seen sink q.access.port ≡ fresh_port File

-- they have nothing under way
abbrev pub AreIdle : {P File : Type 0} → Ghosts P File → List (Session P File) → Type 0
AreIdle {P} {File} sink sessions = (i : ℕ) (q : Session P File) → slice_get sessions i ≡ Some q → (sink.reading q.access.port).in_flight ≡ []

-- what is true of a world's fields between two picks
pub record IsKeptWorld {P File : Type 0} (tells : Bool) (pages : File → List (List ℕ)) (sink : Ghosts P File) (s : Script) (p barrier : ℕ) (held : Holding (Viewed File)) (sessions : List (Session P File)) (unfinished : List ℕ) (room : ℕ) : Type 0 where
  pub bounds : HasBounds s
  pub files : List File
  pub world : IsWorld tells pages s p held (replies_of sessions) (ports_of sink sessions) (stages_of sessions) files
  pub turns : (i : ℕ) (name : List ℕ) (q : Session P File) → slice_get s.sessions i ≡ Some name → slice_get sessions i ≡ Some q → HasTurns s name q
  pub ready : unfinished ≡ ready_from s p 0 s.sessions (replies_of sessions)
  pub wide : length s.sessions ≤ room
  pub barrier_is : barrier ≡ done_before s (replies_of sessions) p
  pub over : unfinished ≡ [] → (i : ℕ) (q : Session P File) → slice_get sessions i ≡ Some q → length q.replies.items ≡ length q.turns.items
