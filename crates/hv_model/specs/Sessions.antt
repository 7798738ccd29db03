-- A script whose sessions are answered in any order of their statements, phase by phase: what holds between two answers. This project's own.
use Rattle.std.specs.Prelude.{◌≡◌, ℕ, ◌+◌, ◌-◌, ◌<◌, ◌≤◌, List, [], ◌∷◌, ◌++◌, length, take, true, Some, IsSome, codes, count_by, slice_get, slice_set, nat_lt, fold, if◌then◌else◌}
use Rattle.std.specs.List.{flat_map}
use Rattle.hv_row.specs.Schema.{same_name}
use Rattle.hv_model.specs.declared.script.Statement.{Statement}
use Rattle.hv_model.specs.declared.script.Script.{Script}
use Rattle.hv_model.specs.declared.catalogue.Detail.{Detail}
use Rattle.hv_model.specs.declared.catalogue.Entry.{Entry}
use Rattle.hv_model.specs.declared.reply.Reply.{Reply}
use Rattle.hv_model.specs.declared.reply.Reply.TheVariants.{Done, Rows, Refused, Failed}
use Rattle.hv_model.specs.Parsed.{tree_of}
use Rattle.hv_model.specs.Script.{most_bytes, most_lines, most_sessions, most_statements, line_list}
use Rattle.hv_model.specs.Command.{statements, database_after, entry_at}
use Rattle.hv_model.specs.Legal.{number_of, reply_to, done_before, Stands, Names, Accepted, Answered, IsRefusedFor, FollowsNumber, may_fail, LegalUpTo}

-- each statement's number is one more than the statements of its session that stand before it
abbrev pub AreNumbered : List Statement → Type 0
AreNumbered xs = (k : ℕ) (x : Statement) → slice_get xs k ≡ Some x → x.number ≡ count_by (λ y. same_name y.session x.session) (take k xs) + 1

-- the script's names of sessions differ and `main` is the first, each statement's session is among them, and along the text the statements of one
-- session are numbered from 1
pub record HasSessions (s : Script) : Type 0 where
  pub main : slice_get s.sessions 0 ≡ Some (codes "main")
  pub distinct : (i j : ℕ) (name : List ℕ) → slice_get s.sessions i ≡ Some name → slice_get s.sessions j ≡ Some name → i ≡ j
  pub named : (x : Statement) → Stands s x → (i : ℕ) × (slice_get s.sessions i ≡ Some x.session)
  pub numbered : AreNumbered (statements s)

-- the script has at least one phase, at most 64 sessions and 1,000,000 statements, and each statement's text and lines are as short as a script's are
pub record HasBounds (s : Script) : Type 0 where
  pub some_phase : 0 < length s.phases
  pub few_sessions : length s.sessions ≤ most_sessions
  pub few_statements : length (statements s) ≤ most_statements
  pub short_text : (x : Statement) → Stands s x → length x.text ≤ most_bytes
  pub few_lines : (x : Statement) → Stands s x → length (line_list x.lines) ≤ most_lines

-- the statements of the first p phases, in the order of the text
abbrev pub statements_before : Script → ℕ → List Statement
statements_before s p = flat_map (λ phase. phase) (take p s.phases)

-- how many statements a session has in the first p phases
abbrev pub count_before : Script → List ℕ → ℕ → ℕ
count_before s name p = count_by (λ x. same_name x.session name) (statements_before s p)

-- each statement of the first p phases has its reply
abbrev pub AllReplied : Script → List (List Reply) → ℕ → Type 0
AllReplied s replies p = (k : ℕ) (x : Statement) → slice_get (statements_before s p) k ≡ Some x → IsSome (reply_to s replies x)

-- the lists of replies in phase p, from 0: one for each session, none longer than its statements of the phases up to p, and each statement of an
-- earlier phase has its reply
pub record RepliesInPhase (s : Script) (p : ℕ) (replies : List (List Reply)) : Type 0 where
  pub lists : length replies ≡ length s.sessions
  pub short : (i : ℕ) (name : List ℕ) (of_session : List Reply) → slice_get s.sessions i ≡ Some name → slice_get replies i ≡ Some of_session
      → length of_session ≤ count_before s name (p + 1)
  pub replied : AllReplied s replies p

-- the most that a number of phase q may be in phase p: the Done replies up to its end where q has ended, else the present length
abbrev pub upper_in_phase : Script → ℕ → List Entry → List (List Reply) → ℕ → ℕ
upper_in_phase s p history replies q = if nat_lt q p then done_before s replies (q + 1) else length history

-- what holds between two answers in phase p: a legal outcome so far, whose Done replies are as many as the entries
pub record LegalInPhase (s : Script) (max : ℕ) (known : Type 0) (p : ℕ) (history : List Entry) (replies : List (List Reply)) : Type 0 where
  pub answers : RepliesInPhase s p replies
  pub counted : done_before s replies (p + 1) ≡ length history
  pub parts : LegalUpTo s max known (upper_in_phase s p history replies) history replies

-- a statement of phase p is the next of its session, which is the one at a place and has these replies
pub record IsNext (s : Script) (p : ℕ) (replies : List (List Reply)) (x : Statement) (at : ℕ) (of_session : List Reply) : Type 0 where
  pub phase : List Statement
  pub place : ℕ
  pub phase_is : slice_get s.phases p ≡ Some phase
  pub stands : slice_get phase place ≡ Some x
  pub session : slice_get s.sessions at ≡ Some x.session
  pub replies_are : slice_get replies at ≡ Some of_session
  pub number : x.number ≡ length of_session + 1

-- the replies with one more of the session at a place, which has these so far
abbrev pub with_reply : List (List Reply) → ℕ → List Reply → Reply → List (List Reply)
with_reply replies at of_session r = slice_set replies at (of_session ++ r ∷ [])

-- the number that a session's last reply tells; 0 before the first
abbrev pub last_number : List Reply → ℕ
last_number of_session = fold (λ n r. number_of r) 0 of_session

-- a length that a statement of phase p may tell without an entry: it was reached, its session has told none above it, and the Done replies of the
-- earlier phases are no more
pub record IsSeen (s : Script) (p : ℕ) (history : List Entry) (replies : List (List Reply)) (of_session : List Reply) (n : ℕ) : Type 0 where
  pub reached : n ≤ length history
  pub after_own : last_number of_session ≤ n
  pub after_phases : done_before s replies p ≤ n

-- a statement whose reply is Done has its entry
pub record HasEntry (history : List Entry) (x : Statement) (n : ℕ) (what : Detail) : Type 0 where
  pub entry : Entry
  pub stands : entry_at history n ≡ Some entry
  pub names : Names entry x
  pub told : entry.what ≡ what

-- what a reply says of its statement is so over a history: a Done has its entry, whose command is accepted behind those before it; another says
-- what the statement is answered over the database after as many entries as it tells
abbrev pub IsTold : Script → ℕ → Type 0 → List Entry → Statement → Reply → Type 0
IsTold s max known history x (Done n what) = HasEntry history x n what × Accepted x (database_after s history (n - 1)) what
IsTold s max known history x (Rows n rows) = Answered x (database_after s history n) max known rows
IsTold s max known history x (Refused n cause) = IsRefusedFor x (database_after s history n) max known cause
IsTold s max known history x (Failed n cause) = may_fail (tree_of x.text) cause ≡ true

-- what holds of the replies of one session, over a history that may be longer than any that it saw
pub record SessionSoFar (s : Script) (max : ℕ) (known : Type 0) (history : List Entry) (name : List ℕ) (of_session : List Reply) : Type 0 where
  pub told : (x : Statement) (r : Reply) → Stands s x → x.session ≡ name → slice_get of_session (x.number - 1) ≡ Some r → IsTold s max known history x r
  pub along : (j k : ℕ) (r q : Reply) → j < k → slice_get of_session j ≡ Some r → slice_get of_session k ≡ Some q → FollowsNumber (number_of r) q
  pub reached : (k : ℕ) (r : Reply) → slice_get of_session k ≡ Some r → number_of r ≤ length history
