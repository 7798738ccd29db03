-- Reports are told by their bytes. This project's own.
use Rattle.std.specs.Prelude.{◌≡◌, ◌≢◌, ◌⊎◌, ℕ, ◌<◌, ◌^◌, List, length, IfSome, FitsSigned}
use Rattle.std.specs.Int.{w128}
use Rattle.std.specs.List.{All, AllPairs, AllZip}
use Rattle.hv_model.specs.Token.{IsPlain}
use Rattle.hv_model.specs.declared.catalogue.Detail.{Detail}
use Rattle.hv_model.specs.declared.catalogue.Detail.TheVariants as detail
use Rattle.hv_model.specs.declared.catalogue.Entry.{Entry}
use Rattle.hv_model.specs.declared.query.Cell.{Cell}
use Rattle.hv_model.specs.declared.query.Cell.TheVariants.{Num, Txt}
use Rattle.hv_model.specs.declared.reply.Reply.{Reply}
use Rattle.hv_model.specs.declared.reply.Reply.TheVariants as reply
use Rattle.hv_model.specs.declared.reply.Refusal.{Refusal}
use Rattle.hv_model.specs.declared.reply.Refusal.TheVariants as refused
use Rattle.hv_model.specs.declared.reply.Failure.{Failure}
use Rattle.hv_model.specs.declared.reply.Failure.TheVariants.{Read, Write, Damaged, Memory}
use Rattle.hv_model.specs.declared.reply.Why.{Why}
use Rattle.hv_report.specs.Text.{names_of, text_of}
use Rattle.hv_report.specs.declared.report.Report.{Report}
use Rattle.hv_report.specs.declared.report.SessionReport.{SessionReport}
use Rattle.hv_report.specs.declared.report.Stats.{Stats}

-- the table is named plainly
abbrev pub DetailNamed : Detail → Type 0
DetailNamed (detail.Create table) = IsPlain table
DetailNamed (detail.Import table chunk rows) = IsPlain table
DetailNamed (detail.Purge table chunk) = IsPlain table

-- so is that of an accepted command
abbrev pub ReplyNamed : Reply → Type 0
ReplyNamed (reply.Done at what) = DetailNamed what
ReplyNamed (reply.Rows at rows) = Unit {0}
ReplyNamed (reply.Refused at cause) = Unit {0}
ReplyNamed (reply.Failed at cause) = Unit {0}

-- so are an entry's session and table
pub record EntryNamed (e : Entry) : Type 0 where
  pub session : IsPlain e.session
  pub what : DetailNamed e.what

-- so is a session, and the tables of its replies
pub record SessionNamed (s : SessionReport) : Type 0 where
  pub name : IsPlain s.name
  pub replies : All ReplyNamed s.replies

-- sessions and tables are named plainly
pub record Named (r : Report) : Type 0 where
  pub sessions : All SessionNamed r.sessions
  pub history : All EntryNamed r.history

-- a number of 8 bits
abbrev pub Is8 : ℕ → Type 0
Is8 n = n < 2 ^ 8

-- a number of 32 bits
abbrev pub Is32 : ℕ → Type 0
Is32 n = n < 2 ^ 32

-- a number of 64 bits, such as a count of items in memory
abbrev pub Is64 : ℕ → Type 0
Is64 n = n < 2 ^ 64

-- the numbers of what a command did
abbrev pub DetailInRange : Detail → Type 0
DetailInRange (detail.Create table) = Unit {0}
DetailInRange (detail.Import table chunk rows) = Is32 chunk × Is32 rows
DetailInRange (detail.Purge table chunk) = Is32 chunk

-- a number of 128 bits in a cell
abbrev pub CellInRange : Cell → Type 0
CellInRange (Num n) = FitsSigned w128 n
CellInRange (Txt bytes) = Unit {0}

-- the numbers of a row
abbrev pub RowInRange : List Cell → Type 0
RowInRange cells = All CellInRange cells

-- the numbers of a refusal
abbrev pub RefusalInRange : Refusal → Type 0
RefusalInRange refused.Unbuilt = Unit {0}
RefusalInRange (refused.Syntax byte) = Is32 byte
RefusalInRange refused.TooManyColumns = Unit {0}
RefusalInRange (refused.DuplicateColumn column) = Is8 column
RefusalInRange refused.TableExists = Unit {0}
RefusalInRange refused.TooManyTables = Unit {0}
RefusalInRange (refused.NoTable byte) = Is32 byte
RefusalInRange (refused.BadRow row column) = Is32 row × Is8 column
RefusalInRange (refused.LongRow row) = Is32 row
RefusalInRange refused.TooManyChunks = Unit {0}
RefusalInRange (refused.NoChunk chunk) = Is64 chunk
RefusalInRange refused.HistoryFull = Unit {0}
RefusalInRange (refused.TooManyPlaces byte) = Is32 byte
RefusalInRange (refused.DuplicateAlias byte) = Is32 byte
RefusalInRange (refused.NoColumn byte) = Is32 byte
RefusalInRange (refused.Ambiguous byte) = Is32 byte
RefusalInRange (refused.TypeMismatch byte) = Is32 byte
RefusalInRange (refused.NotGrouped byte) = Is32 byte
RefusalInRange (refused.NoOutput byte) = Is32 byte
RefusalInRange refused.EmptyAggregate = Unit {0}

-- the numbers of a page that did not serve
abbrev pub FailureInRange : Failure → Type 0
FailureInRange Read = Unit {0}
FailureInRange Write = Unit {0}
FailureInRange (Damaged chunk page why) = Is32 chunk × Is32 page
FailureInRange Memory = Unit {0}

-- the numbers of a reply
abbrev pub ReplyInRange : Reply → Type 0
ReplyInRange (reply.Done at what) = Is32 at × DetailInRange what
ReplyInRange (reply.Rows at rows) = Is32 at × Is64 (length rows) × All RowInRange rows
ReplyInRange (reply.Refused at cause) = Is32 at × RefusalInRange cause
ReplyInRange (reply.Failed at cause) = Is32 at × FailureInRange cause

-- the numbers of an entry
pub record EntryInRange (e : Entry) : Type 0 where
  pub number : Is32 e.number
  pub what : DetailInRange e.what

-- how many replies a session has, and their numbers
pub record SessionInRange (s : SessionReport) : Type 0 where
  pub count : Is64 (length s.replies)
  pub replies : All ReplyInRange s.replies

-- the numbers of the last line
pub record StatsInRange (s : Stats) : Type 0 where
  pub tasks : Is32 s.tasks
  pub reads : Is32 s.reads
  pub submits : Is64 s.submits

-- each number is in the range of its type, as it is where a program has the report
pub record InRange (r : Report) : Type 0 where
  pub sessions : All SessionInRange r.sessions
  pub count : Is64 (length r.history)
  pub history : All EntryInRange r.history
  pub stats : IfSome r.stats StatsInRange

-- the same page of the same chunk did not serve, for whatever reasons
pub record BothDamaged (a b : Reply) : Type 0 where
  pub at : ℕ
  pub chunk : ℕ
  pub page : ℕ
  pub why : Why
  pub other : Why
  pub first : a ≡ reply.Failed at (Damaged chunk page why)
  pub second : b ≡ reply.Failed at (Damaged chunk page other)

-- replies that print alike
abbrev pub SameReply : Reply → Reply → Type 0
SameReply a b = (a ≡ b) ⊎ BothDamaged a b

-- sessions whose replies print alike, one by one
abbrev pub SameSession : SessionReport → SessionReport → Type 0
SameSession a b = (a.name ≡ b.name) × AllZip SameReply a.replies b.replies

-- reports that differ in no more than why a page did not serve
pub record Alike (a b : Report) : Type 0 where
  pub sessions : AllZip SameSession a.sessions b.sessions
  pub history : a.history ≡ b.history
  pub stats : a.stats ≡ b.stats

-- reports of the same sessions, which have distinct names, are told by their bytes
abbrev pub OneReport : Type 0
OneReport = (a b : Report) → Named a → Named b → InRange a → InRange b → names_of a.sessions ≡ names_of b.sessions
    → AllPairs (λ x y. x ≢ y) (names_of a.sessions) → text_of a ≡ text_of b → Alike a b

-- and reports that are alike have the same bytes
abbrev pub OneText : Type 0
OneText = (a b : Report) → Alike a b → text_of a ≡ text_of b
