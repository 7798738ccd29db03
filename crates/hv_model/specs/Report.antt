-- The bytes of a report. This project's own.
use Rattle.std.specs.Prelude.{ℕ, ◌+◌, ◌==◌, List, [], ◌∷◌, ◌++◌, length, codes, if◌then◌else◌}
use Rattle.std.specs.Fmt.{decimal, signed_decimal}
use Rattle.std.specs.List.{flat_map, join_by}
use Rattle.hv_model.specs.declared.catalogue.Detail.{Detail}
use Rattle.hv_model.specs.declared.catalogue.Detail.TheVariants as detail
use Rattle.hv_model.specs.declared.catalogue.Entry.{Entry}
use Rattle.hv_model.specs.declared.reply.Reply.{Reply}
use Rattle.hv_model.specs.declared.reply.Reply.TheVariants as reply
use Rattle.hv_model.specs.declared.reply.Refusal.{Refusal}
use Rattle.hv_model.specs.declared.reply.Refusal.TheVariants as refused
use Rattle.hv_model.specs.declared.reply.Failure.{Failure}
use Rattle.hv_model.specs.declared.reply.Failure.TheVariants.{Read, Write, Damaged, Memory}
use Rattle.hv_model.specs.declared.query.Cell.{Cell}
use Rattle.hv_model.specs.declared.query.Cell.TheVariants.{Num, Txt}
use Rattle.hv_model.specs.declared.script.Script.{Script}

-- what an accepted command did
abbrev pub detail_text : Detail → List ℕ
detail_text (detail.Create table) = codes "create " ++ table
detail_text (detail.Import table chunk rows) =
    codes "import " ++ table ++ codes " chunk " ++ decimal chunk ++ codes " rows " ++ decimal rows
detail_text (detail.Purge table chunk) = codes "purge " ++ table ++ codes " chunk " ++ decimal chunk

-- a byte of a text, a quote written twice
abbrev pub quoted_byte : ℕ → List ℕ
quoted_byte b = if b == 39 then 39 ∷ 39 ∷ [] else b ∷ []

-- a cell: a number in decimal, a text between quotes
abbrev pub cell_text : Cell → List ℕ
cell_text (Num n) = signed_decimal n
cell_text (Txt bytes) = codes "'" ++ flat_map quoted_byte bytes ++ codes "'"

-- an output row: its cells joined by `|`
abbrev pub row_line : List Cell → List ℕ
row_line cells = join_by cell_text (codes "|") cells ++ codes "\n"

-- why a statement is refused
abbrev pub refusal_text : Refusal → List ℕ
refusal_text refused.Unbuilt = codes "unbuilt"
refusal_text (refused.Syntax byte) = codes "syntax " ++ decimal byte
refusal_text refused.TooManyColumns = codes "too-many-columns"
refusal_text (refused.DuplicateColumn column) = codes "duplicate-column " ++ decimal column
refusal_text refused.TableExists = codes "table-exists"
refusal_text refused.TooManyTables = codes "too-many-tables"
refusal_text (refused.NoTable byte) = codes "no-table " ++ decimal byte
refusal_text (refused.BadRow row column) = codes "bad-row " ++ decimal row ++ codes " " ++ decimal column
refusal_text (refused.LongRow row) = codes "long-row " ++ decimal row
refusal_text refused.TooManyChunks = codes "too-many-chunks"
refusal_text (refused.NoChunk chunk) = codes "no-chunk " ++ decimal chunk
refusal_text refused.HistoryFull = codes "history-full"
refusal_text (refused.TooManyPlaces byte) = codes "too-many-places " ++ decimal byte
refusal_text (refused.DuplicateAlias byte) = codes "duplicate-alias " ++ decimal byte
refusal_text (refused.NoColumn byte) = codes "no-column " ++ decimal byte
refusal_text (refused.Ambiguous byte) = codes "ambiguous " ++ decimal byte
refusal_text (refused.TypeMismatch byte) = codes "type-mismatch " ++ decimal byte
refusal_text (refused.NotGrouped byte) = codes "not-grouped " ++ decimal byte
refusal_text (refused.NoOutput byte) = codes "no-output " ++ decimal byte
refusal_text refused.EmptyAggregate = codes "empty-aggregate"

-- why a statement failed
abbrev pub failure_text : Failure → List ℕ
failure_text Read = codes "read"
failure_text Write = codes "write"
failure_text (Damaged chunk page why) = codes "damaged " ++ decimal chunk ++ codes " " ++ decimal page
failure_text Memory = codes "memory"

-- the reply to the k-th statement of a session
abbrev pub reply_text : ℕ → Reply → List ℕ
reply_text k (reply.Done at what) = decimal k ++ codes " ok @" ++ decimal at ++ codes " " ++ detail_text what ++ codes "\n"
reply_text k (reply.Rows at rows) =
    decimal k ++ codes " rows @" ++ decimal at ++ codes " " ++ decimal (length rows) ++ codes "\n" ++ flat_map row_line rows
reply_text k (reply.Refused at cause) = decimal k ++ codes " refused @" ++ decimal at ++ codes " " ++ refusal_text cause ++ codes "\n"
reply_text k (reply.Failed at cause) = decimal k ++ codes " failed @" ++ decimal at ++ codes " " ++ failure_text cause ++ codes "\n"

-- replies, numbered on from k
abbrev pub replies_text : ℕ → List Reply → List ℕ
replies_text k [] = []
replies_text k (r ∷ rs) = reply_text k r ++ replies_text (k + 1) rs

-- a session with at least one reply
abbrev pub session_text : List ℕ → List Reply → List ℕ
session_text name [] = []
session_text name (r ∷ rs) = codes "session " ++ name ++ codes "\n" ++ replies_text 1 (r ∷ rs)

-- the sessions in order of naming
abbrev pub sessions_text : List (List ℕ) → List (List Reply) → List ℕ
sessions_text [] replies = []
sessions_text (name ∷ names) [] = []
sessions_text (name ∷ names) (of_session ∷ more) = session_text name of_session ++ sessions_text names more

-- the i-th entry
abbrev pub entry_text : ℕ → Entry → List ℕ
entry_text i e = decimal i ++ codes " " ++ e.session ++ codes " " ++ decimal e.number ++ codes " " ++ detail_text e.what ++ codes "\n"

-- entries, numbered on from i
abbrev pub entries_text : ℕ → List Entry → List ℕ
entries_text i [] = []
entries_text i (e ∷ es) = entry_text i e ++ entries_text (i + 1) es

-- the history
abbrev pub history_text : List Entry → List ℕ
history_text entries = codes "history " ++ decimal (length entries) ++ codes "\n" ++ entries_text 1 entries

-- the report on a script
abbrev pub report_text : Script → List Entry → List (List Reply) → List ℕ
report_text s history replies = sessions_text s.sessions replies ++ history_text history
