-- When a history and replies are a legal outcome of a script. This project's own.
use Rattle.std.specs.Prelude.{◌≡◌, ◌⊎◌, ℕ, ◌+◌, ◌-◌, ◌<◌, ◌≤◌, Bool, true, false, List, [], length, take, map, Option, Some, None, Ok, IsSome, position, count_by, slice_get}
use Rattle.std.specs.List.{flat_map}
use Rattle.std.specs.Option.{option_and_then}
use Rattle.hv_row.specs.Schema.{same_name}
use Rattle.hv_model.specs.declared.tree.Ast.{Ast}
use Rattle.hv_model.specs.declared.tree.Ast.TheVariants as ast
use Rattle.hv_model.specs.declared.script.Statement.{Statement}
use Rattle.hv_model.specs.declared.script.Script.{Script}
use Rattle.hv_model.specs.declared.catalogue.Detail.{Detail}
use Rattle.hv_model.specs.declared.catalogue.Entry.{Entry}
use Rattle.hv_model.specs.declared.reply.Reply.{Reply}
use Rattle.hv_model.specs.declared.reply.Reply.TheVariants as reply
use Rattle.hv_model.specs.declared.reply.Refusal.{Refusal}
use Rattle.hv_model.specs.declared.reply.Refusal.TheVariants.{EmptyAggregate}
use Rattle.hv_model.specs.declared.reply.Failure.{Failure}
use Rattle.hv_model.specs.declared.reply.Failure.TheVariants as failure
use Rattle.hv_model.specs.declared.query.BoundQuery.{BoundQuery}
use Rattle.hv_model.specs.declared.query.Cell.{Cell}
use Rattle.hv_model.specs.Parsed.{tree_of}
use Rattle.hv_model.specs.Database.{RowDatabase, RowCommand, step}
use Rattle.hv_model.specs.Answer.{IsAnswer, is_empty_aggregate}
use Rattle.hv_model.specs.Command.{statements, command_at, bound, early_refusal, refusal, detail_of, database_after, entry_at}

-- the length of the history that a reply tells
abbrev pub number_of : Reply → ℕ
number_of (reply.Done at what) = at
number_of (reply.Rows at rows) = at
number_of (reply.Refused at cause) = at
number_of (reply.Failed at cause) = at

-- whether a reply says that a command was accepted
abbrev pub is_done : Reply → Bool
is_done (reply.Done at what) = true
is_done (reply.Rows at rows) = false
is_done (reply.Refused at cause) = false
is_done (reply.Failed at cause) = false

-- the place of a session among a script's sessions
abbrev pub session_place : Script → List ℕ → Option ℕ
session_place s name = position (λ other. same_name other name) s.sessions

-- the reply to a statement; replies are kept by session, in order of naming, and there by number from 1
abbrev pub reply_to : Script → List (List Reply) → Statement → Option Reply
reply_to s replies x =
    option_and_then (λ place. option_and_then (λ of_session. slice_get of_session (x.number - 1)) (slice_get replies place)) (session_place s x.session)

-- whether a statement's reply says that its command was accepted
abbrev pub is_done_option : Option Reply → Bool
is_done_option None = false
is_done_option (Some r) = is_done r

-- how many replies to statements of the first p phases are Done
abbrev pub done_before : Script → List (List Reply) → ℕ → ℕ
done_before s replies p = count_by (λ x. is_done_option (reply_to s replies x)) (flat_map (λ phase. phase) (take p s.phases))

-- a statement of the script
abbrev pub Stands : Script → Statement → Type 0
Stands s x = (k : ℕ) × (slice_get (statements s) k ≡ Some x)

-- an entry names this statement
pub record Names (e : Entry) (x : Statement) : Type 0 where
  pub session : e.session ≡ x.session
  pub number : e.number ≡ x.number

-- how many statements a session has
abbrev pub count_of_session : Script → List ℕ → ℕ
count_of_session s name = count_by (λ x. same_name x.session name) (statements s)

-- each statement has exactly one reply
pub record EachOnce (s : Script) (replies : List (List Reply)) : Type 0 where
  pub some : (x : Statement) → Stands s x → IsSome (reply_to s replies x)
  pub counts : map (λ of_session. length of_session) replies ≡ map (count_of_session s) s.sessions

-- each entry names a statement whose reply is Done, with the entry's number and detail
abbrev pub EntriesAreDone : Script → List Entry → List (List Reply) → Type 0
EntriesAreDone s history replies =
    (n : ℕ) (e : Entry) → entry_at history n ≡ Some e
    → (x : Statement) × Stands s x × Names e x × (reply_to s replies x ≡ Some (reply.Done n e.what))

-- each Done reply has the entry of its number, which names its statement and has its detail
abbrev pub DoneAreEntries : Script → List Entry → List (List Reply) → Type 0
DoneAreEntries s history replies =
    (x : Statement) (n : ℕ) (what : Detail) → Stands s x → reply_to s replies x ≡ Some (reply.Done n what)
    → (e : Entry) × (entry_at history n ≡ Some e) × Names e x × (e.what ≡ what)

-- the command of a statement is accepted by a database, and this is what is told of it
pub record Accepted (x : Statement) (before : RowDatabase) (what : Detail) : Type 0 where
  pub command : RowCommand
  pub after : RowDatabase
  pub is : command_at x before ≡ Ok command
  pub steps : step before command ≡ Ok after
  pub told : what ≡ detail_of before command

-- each entry's command is accepted by the database after the entries before it, and its detail tells that step
abbrev pub EntriesAreSteps : Script → List Entry → Type 0
EntriesAreSteps s history =
    (n : ℕ) (e : Entry) (x : Statement) → entry_at history n ≡ Some e → Stands s x → Names e x
    → Accepted x (database_after s history (n - 1)) e.what

-- a reply whose number may follow a number of its session: not less, and greater where it is Done
abbrev pub FollowsNumber : ℕ → Reply → Type 0
FollowsNumber n (reply.Done at what) = n < at
FollowsNumber n (reply.Rows at rows) = n ≤ at
FollowsNumber n (reply.Refused at cause) = n ≤ at
FollowsNumber n (reply.Failed at cause) = n ≤ at

-- along a session the numbers never fall, and a Done's is greater than every earlier one
abbrev pub RisesAlong : Script → List (List Reply) → Type 0
RisesAlong s replies =
    (x y : Statement) (r q : Reply) → Stands s x → Stands s y → x.session ≡ y.session → x.number < y.number
    → reply_to s replies x ≡ Some r → reply_to s replies y ≡ Some q → FollowsNumber (number_of r) q

-- each number of a phase is at least the number of Done replies of the phases before, and at most `upper` of the phase
abbrev pub WithinPhases : Script → List (List Reply) → (ℕ → ℕ) → Type 0
WithinPhases s replies upper =
    (p k : ℕ) (phase : List Statement) (x : Statement) (r : Reply) → slice_get s.phases p ≡ Some phase → slice_get phase k ≡ Some x
    → reply_to s replies x ≡ Some r → (done_before s replies p ≤ number_of r) × (number_of r ≤ upper p)

-- the statement has a query at a database; where the content of the files is known nothing refuses it, and the rows are its answer
pub record Answered (x : Statement) (s : RowDatabase) (max : ℕ) (known : Type 0) (rows : List (List Cell)) : Type 0 where
  pub query : BoundQuery
  pub is : bound x s ≡ Some query
  pub early : early_refusal x s ≡ None
  pub allowed : known → refusal x s max ≡ None
  pub answer : known → IsAnswer query s rows

-- each Rows reply is an answer over the database after as many entries as it tells
abbrev pub RowsAreAnswers : Script → ℕ → Type 0 → List Entry → List (List Reply) → Type 0
RowsAreAnswers s max known history replies =
    (x : Statement) (n : ℕ) (rows : List (List Cell)) → Stands s x → reply_to s replies x ≡ Some (reply.Rows n rows)
    → Answered x (database_after s history n) max known rows

-- a refusal for want of combinations, of a query that is refused where it has none
pub record IsOverNone (x : Statement) (s : RowDatabase) (cause : Refusal) : Type 0 where
  pub is : cause ≡ EmptyAggregate
  pub query : BoundQuery
  pub means : bound x s ≡ Some query
  pub over_none : is_empty_aggregate query [] ≡ true

-- a refusal is the statement's at a database, where the content of the files is known; where it is not, so is each but one for want of combinations
pub record IsRefusedFor (x : Statement) (s : RowDatabase) (max : ℕ) (known : Type 0) (cause : Refusal) : Type 0 where
  pub told : known → refusal x s max ≡ Some cause
  pub cause_is : (early_refusal x s ≡ Some cause) ⊎ IsOverNone x s cause

-- each Refused reply tells the refusal at the database after as many entries as it tells
abbrev pub RefusalsAreCaused : Script → ℕ → Type 0 → List Entry → List (List Reply) → Type 0
RefusalsAreCaused s max known history replies =
    (x : Statement) (n : ℕ) (cause : Refusal) → Stands s x → reply_to s replies x ≡ Some (reply.Refused n cause)
    → IsRefusedFor x (database_after s history n) max known cause

-- whether a statement with this tree reads pages
abbrev pub reads_pages : Option Ast → Bool
reads_pages (Some (ast.Select x)) = true
reads_pages _ = false

-- whether a statement with this tree writes pages
abbrev pub writes_pages : Option Ast → Bool
writes_pages (Some (ast.Import table wanted)) = true
writes_pages _ = false

-- whether a statement with this tree may fail so: a read and a damaged page are of one that reads pages, a write is of one that writes them
abbrev pub may_fail : Option Ast → Failure → Bool
may_fail tree failure.Read = reads_pages tree
may_fail tree failure.Write = writes_pages tree
may_fail tree (failure.Damaged chunk page why) = reads_pages tree
may_fail tree failure.Memory = true

-- a Failed reply has a cause that its statement may have; want of memory any statement
abbrev pub FailuresAreCaused : Script → List (List Reply) → Type 0
FailuresAreCaused s replies =
    (x : Statement) (n : ℕ) (cause : Failure) → Stands s x → reply_to s replies x ≡ Some (reply.Failed n cause)
    → may_fail (tree_of x.text) cause ≡ true

-- what holds of the replies so far, with the greatest number that each phase may have
pub record LegalUpTo (s : Script) (max : ℕ) (known : Type 0) (upper : ℕ → ℕ) (history : List Entry) (replies : List (List Reply)) : Type 0 where
  pub entries : EntriesAreDone s history replies
  pub done : DoneAreEntries s history replies
  pub steps : EntriesAreSteps s history
  pub along : RisesAlong s replies
  pub phases : WithinPhases s replies upper
  pub rows : RowsAreAnswers s max known history replies
  pub refused : RefusalsAreCaused s max known history replies
  pub failed : FailuresAreCaused s replies

-- a legal outcome of a script: one history, and one reply to each statement. `known` is the premise that the content of the files is known:
-- without it all holds but what the rows are and whether there are any
pub record Legal (s : Script) (max : ℕ) (known : Type 0) (history : List Entry) (replies : List (List Reply)) : Type 0 where
  pub once : EachOnce s replies
  pub parts : LegalUpTo s max known (λ p. done_before s replies (p + 1)) history replies
