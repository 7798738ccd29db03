-- What a statement asks of a database: its command, its query, its refusal; and the database after a history. This project's own.
use Rattle.std.specs.Prelude.{ℕ, zero, suc, ◌+◌, Bool, ◌&&◌, ◌==◌, nat_lt, List, [], ◌∷◌, length, Option, Some, None, Result, Ok, Err, find, fold, take, slice_get, if◌then◌else◌}
use Rattle.std.specs.List.{flat_map}
use Rattle.std.specs.Option.{option_and_then, option_map, option_or}
use Rattle.std.specs.Result.{result_err, result_map_both}
use Rattle.hv_row.specs.declared.schema.Column.{Column}
use Rattle.hv_row.specs.Schema.{same_name, first_repeated}
use Rattle.hv_model.specs.declared.tree.Ast.{Ast}
use Rattle.hv_model.specs.declared.tree.Ast.TheVariants as ast
use Rattle.hv_model.specs.declared.tree.Word.{Word}
use Rattle.hv_model.specs.declared.script.Statement.{Statement}
use Rattle.hv_model.specs.declared.script.Script.{Script}
use Rattle.hv_model.specs.declared.catalogue.Table.{Table}
use Rattle.hv_model.specs.declared.catalogue.Database.{Database}
use Rattle.hv_model.specs.declared.catalogue.Command.{Command}
use Rattle.hv_model.specs.declared.catalogue.Command.TheVariants.{Create, Import, Purge}
use Rattle.hv_model.specs.declared.catalogue.StepRefusal.{StepRefusal}
use Rattle.hv_model.specs.declared.catalogue.StepRefusal.TheVariants as unstepped
use Rattle.hv_model.specs.declared.catalogue.Detail.{Detail}
use Rattle.hv_model.specs.declared.catalogue.Detail.TheVariants as detail
use Rattle.hv_model.specs.declared.catalogue.Entry.{Entry}
use Rattle.hv_model.specs.declared.reply.Refusal.{Refusal}
use Rattle.hv_model.specs.declared.reply.Refusal.TheVariants.{Unbuilt, Syntax, TooManyColumns, DuplicateColumn, TableExists, TooManyTables, NoTable, TooManyChunks, NoChunk, HistoryFull, EmptyAggregate}
use Rattle.hv_model.specs.declared.query.BoundQuery.{BoundQuery}
use Rattle.hv_model.specs.Parsed.{parsed, tree_of}
use Rattle.hv_model.specs.Import.{rows_of}
use Rattle.std.specs.Bool.{then_some}
use Rattle.hv_model.specs.Causes.{first_of, given_unless}
use Rattle.hv_model.specs.Database.{Rows, RowDatabase, RowCommand, table_number, step, empty_database}
use Rattle.hv_model.specs.Query.{loops}
use Rattle.hv_model.specs.Answer.{is_empty_aggregate}
use Rattle.hv_model.specs.Selected.{select_refusal, select_query}

-- the table of a name
abbrev pub table_named : {C : Type 0} → Database C → List ℕ → Option (Table C)
table_named s name = option_and_then (λ at. slice_get s.tables at) (table_number s name)

-- more columns than a table has, and then the first column of a name that stood before, by its number from 1
abbrev pub column_causes : List Column → List (Option Refusal)
column_causes columns = then_some (nat_lt 32 (length columns)) TooManyColumns ∷ option_map (λ place. DuplicateColumn (place + 1)) (first_repeated columns) ∷ []

-- what an import asks of its table: a chunk of the rows that its data spells there
abbrev pub import_into : {C : Type 0} → (Rows → C) → Word → List ℕ → Option (Table C) → Result (Command C) Refusal
import_into content table lines None = Err (NoTable table.byte)
import_into content table lines (Some t) = result_map_both (λ rows. Import table.name (content rows)) (λ cause. cause) (rows_of t.schema lines)

-- the command of a statement with this tree and these lines at a database, or the refusal for which it has none; `content` is what a chunk has of its rows.
-- A query has no command.
abbrev pub command_of : {C : Type 0} → (Rows → C) → Ast → List ℕ → Database C → Result (Command C) Refusal
command_of content (ast.Create table columns) lines s = given_unless (first_of (column_causes columns)) (Create table.name columns)
command_of content (ast.Import table wanted) lines s = import_into content table lines (table_named s table.name)
command_of content (ast.Purge chunk table) lines s = Ok (Purge table.name chunk)
command_of content (ast.Merge parts table) lines s = Err Unbuilt
command_of content (ast.Session name) lines s = Err Unbuilt
command_of content ast.Barrier lines s = Err Unbuilt
command_of content (ast.Select x) lines s = Err Unbuilt

-- the command of a text that was read as a tree or has a fault
abbrev pub text_command : {C : Type 0} → (Rows → C) → Result Ast ℕ → List ℕ → Database C → Result (Command C) Refusal
text_command content (Err byte) lines s = Err (Syntax byte)
text_command content (Ok tree) lines s = command_of content tree lines s

-- the command of a statement at a database, with rows
abbrev pub command_at : Statement → RowDatabase → Result RowCommand Refusal
command_at x s = text_command (λ rows. rows) (parsed x.text) x.lines s

-- the byte of the table's name in a statement with this tree
abbrev pub table_byte : Ast → ℕ
table_byte (ast.Create table columns) = table.byte
table_byte (ast.Import table wanted) = table.byte
table_byte (ast.Purge chunk table) = table.byte
table_byte (ast.Merge parts table) = table.byte
table_byte (ast.Session name) = 0
table_byte ast.Barrier = 0
table_byte (ast.Select x) = 0

-- the refusal of a statement whose command a database doesn't accept; its table's name is at this byte
abbrev pub step_cause : ℕ → StepRefusal → Refusal
step_cause byte unstepped.TableExists = TableExists
step_cause byte unstepped.TooManyTables = TooManyTables
step_cause byte unstepped.NoTable = NoTable byte
step_cause byte unstepped.TooManyChunks = TooManyChunks
step_cause byte (unstepped.NoChunk chunk) = NoChunk chunk
step_cause byte unstepped.HistoryFull = HistoryFull

-- the refusal of a statement for its command, or for what the database makes of it
abbrev pub command_refusal : {C : Type 0} → ℕ → Database C → Result (Command C) Refusal → Option Refusal
command_refusal byte s (Err cause) = Some cause
command_refusal byte s (Ok c) = option_map (step_cause byte) (result_err (step s c))

-- the query of a statement with this tree, where it has one at the database
abbrev pub query_of : {C : Type 0} → Option Ast → Database C → Option BoundQuery
query_of (Some (ast.Select x)) s = select_query x s
query_of _ s = None

-- the query of a statement at a database, its names resolved, where nothing but its rows may refuse it
abbrev pub bound : {C : Type 0} → Statement → Database C → Option BoundQuery
bound x s = query_of (tree_of x.text) s

-- the refusal of a statement with this tree and these lines
abbrev pub tree_refusal : {C : Type 0} → (Rows → C) → Ast → List ℕ → Database C → Option Refusal
tree_refusal content (ast.Select x) lines s = select_refusal x s
tree_refusal content tree lines s = command_refusal (table_byte tree) s (command_of content tree lines s)

-- the refusal of a text that was read as a tree or has a fault
abbrev pub text_refusal : {C : Type 0} → (Rows → C) → Result Ast ℕ → List ℕ → Database C → Option Refusal
text_refusal content (Err byte) lines s = Some (Syntax byte)
text_refusal content (Ok tree) lines s = tree_refusal content tree lines s

-- the refusal of a statement at a database, but for what the rows of its query decide
abbrev pub early_refusal : Statement → RowDatabase → Option Refusal
early_refusal x s = text_refusal (λ rows. rows) (parsed x.text) x.lines s

-- the refusal of a query for its combinations
abbrev pub empty_refusal : Option BoundQuery → RowDatabase → Option Refusal
empty_refusal None s = None
empty_refusal (Some q) s = if is_empty_aggregate q (loops q s) then Some EmptyAggregate else None

-- the refusal of a statement at a database; `max`, the most rows that a query of one place may list, refuses nothing yet
abbrev pub refusal : Statement → RowDatabase → ℕ → Option Refusal
refusal x s max = option_or (early_refusal x s) (empty_refusal (bound x s) s)

-- what is told of a command that a database accepted; `count` is how many rows a chunk has
abbrev pub told_of : {C : Type 0} → (C → ℕ) → Database C → Command C → Detail
told_of count s (Create name schema) = detail.Create name
told_of count s (Import name content) = detail.Import name (s.made + 1) (count content)
told_of count s (Purge name chunk) = detail.Purge name chunk

-- the same of a command with rows
abbrev pub detail_of : RowDatabase → RowCommand → Detail
detail_of s c = told_of (λ rows. length rows) s c

-- the statements of a script, in the order of the text
abbrev pub statements : Script → List Statement
statements s = flat_map (λ phase. phase) s.phases

-- whether an entry names a statement, by session and number
abbrev pub is_named : Entry → Statement → Bool
is_named e x = same_name e.session x.session && e.number == x.number

-- the statement that an entry names
abbrev pub statement_named : Script → Entry → Option Statement
statement_named s e = find (is_named e) (statements s)

-- the database after a command; as before where there is none or it isn't accepted
abbrev pub settled : {C : Type 0} → Database C → Result (Database C) StepRefusal → Database C
settled before (Ok after) = after
settled before (Err _) = before

abbrev pub after_command : {C : Type 0} → Database C → Result (Command C) Refusal → Database C
after_command s (Err _) = s
after_command s (Ok c) = settled s (step s c)

abbrev pub after_statement : {C : Type 0} → (Rows → C) → Database C → Option Statement → Database C
after_statement content s None = s
after_statement content s (Some x) = after_command s (text_command content (parsed x.text) x.lines s)

-- the database after one more entry
abbrev pub after_entry : {C : Type 0} → (Rows → C) → Script → Database C → Entry → Database C
after_entry content script s e = after_statement content s (statement_named script e)

-- the database after the entries, from a start
abbrev pub replay_from : {C : Type 0} → (Rows → C) → Script → Database C → List Entry → Database C
replay_from content script start entries = fold (after_entry content script) start entries

-- the database after the first n entries of a history
abbrev pub database_after : Script → List Entry → ℕ → RowDatabase
database_after script history n = replay_from (λ rows. rows) script empty_database (take n history)

-- the n-th entry of a history, counted from 1
abbrev pub entry_at : List Entry → ℕ → Option Entry
entry_at history zero = None
entry_at history (suc n) = slice_get history n
