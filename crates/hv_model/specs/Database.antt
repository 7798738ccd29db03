-- Databases, and what a command does to one. This project's own.
-- A database is generic in the content of its chunks: with rows it is what queries are answered over; with how many rows a chunk has it is
-- what stays where files tell nothing; with the chunks themselves it is what a catalogue holds.
use Rattle.std.specs.Prelude.{ℕ, ◌+◌, Bool, not, ◌==◌, nat_le, List, [], ◌∷◌, ◌++◌, length, map, filter, Option, Some, None, Result, Ok, Err, is_some, position, slice_get, slice_set}
use Rattle.std.specs.List.{flat_map, list_any}
use Rattle.hv_row.specs.declared.value.Value.{Value}
use Rattle.hv_row.specs.declared.schema.Column.{Column}
use Rattle.hv_row.specs.Schema.{same_name}
use Rattle.hv_model.specs.declared.catalogue.Chunk.{Chunk}
use Rattle.hv_model.specs.declared.catalogue.Table.{Table}
use Rattle.hv_model.specs.declared.catalogue.Database.{Database}
use Rattle.hv_model.specs.declared.catalogue.Command.{Command}
use Rattle.hv_model.specs.declared.catalogue.Command.TheVariants.{Create, Import, Purge}
use Rattle.hv_model.specs.declared.catalogue.StepRefusal.{StepRefusal}
use Rattle.hv_model.specs.declared.catalogue.StepRefusal.TheVariants.{TableExists, TooManyTables, NoTable, TooManyChunks, NoChunk, HistoryFull}
use Rattle.std.specs.Bool.{then_some}
use Rattle.hv_model.specs.Causes.{first_of, given_unless}

-- the limits of a catalogue
abbrev pub most_tables : ℕ
most_tables = 64

abbrev pub most_chunks : ℕ
most_chunks = 1024

abbrev pub most_entries : ℕ
most_entries = 65536

-- rows, in order
abbrev pub Rows : Type 0
Rows = List (List Value)

-- chunks, tables, databases and commands with rows
abbrev pub RowChunk : Type 0
RowChunk = Chunk Rows

abbrev pub RowTable : Type 0
RowTable = Table Rows

abbrev pub RowDatabase : Type 0
RowDatabase = Database Rows

abbrev pub RowCommand : Type 0
RowCommand = Command Rows

-- the database without a table
abbrev pub empty_database : {C : Type 0} → Database C
empty_database = record { tables = []; made = 0; length = 0 }

-- the rows of a table: those of its chunks, in order
abbrev pub rows_of_table : RowTable → Rows
rows_of_table t = flat_map (λ c. c.content) t.chunks

-- the number of the table of a name, in the order of creation, from 0
abbrev pub table_number : {C : Type 0} → Database C → List ℕ → Option ℕ
table_number s name = position (λ t. same_name t.name name) s.tables

-- whether a table has a chunk of this number
abbrev pub has_chunk : {C : Type 0} → ℕ → Table C → Bool
has_chunk number t = list_any (λ c. c.number == number) t.chunks

-- the database with one more table, which has no chunk
abbrev pub with_table : {C : Type 0} → List ℕ → List Column → Database C → Database C
with_table name schema s = record {
  tables = s.tables ++ (record { name = name; schema = schema; chunks = [] }) ∷ [];
  made = s.made;
  length = s.length + 1;
}

-- the table with one more chunk, which is its last
abbrev pub with_last_chunk : {C : Type 0} → Table C → ℕ → C → Table C
with_last_chunk t number content = record { name = t.name; schema = t.schema; chunks = t.chunks ++ (record { number = number; content = content }) ∷ [] }

-- the table without the chunk of this number; the others stay in their order
abbrev pub without_chunk : {C : Type 0} → Table C → ℕ → Table C
without_chunk t number = record { name = t.name; schema = t.schema; chunks = filter (λ c. not (c.number == number)) t.chunks }

-- the database with a new chunk of this content, last in the table t of number `at`
abbrev pub with_chunk : {C : Type 0} → ℕ → Table C → C → Database C → Database C
with_chunk at t content s = record {
  tables = slice_set s.tables at (with_last_chunk t (s.made + 1) content);
  made = s.made + 1;
  length = s.length + 1;
}

-- the database without a chunk of the table t of number `at`
abbrev pub with_purged : {C : Type 0} → ℕ → Table C → ℕ → Database C → Database C
with_purged at t number s = record {
  tables = slice_set s.tables at (without_chunk t number);
  made = s.made;
  length = s.length + 1;
}

-- why no further command is taken, whatever it is
abbrev pub full : {C : Type 0} → Database C → Option StepRefusal
full s = then_some (nat_le most_entries s.length) HistoryFull

-- what may stand against a table of this name, in order
abbrev pub create_causes : {C : Type 0} → List ℕ → Database C → List (Option StepRefusal)
create_causes name s = then_some (is_some (table_number s name)) TableExists ∷ then_some (nat_le most_tables (length s.tables)) TooManyTables ∷ full s ∷ []

-- what may stand against one more chunk of a table, in order
abbrev pub import_causes : {C : Type 0} → Table C → Database C → List (Option StepRefusal)
import_causes t s = then_some (nat_le most_chunks (length t.chunks)) TooManyChunks ∷ full s ∷ []

-- what may stand against taking the chunk of this number out of a table, in order
abbrev pub purge_causes : {C : Type 0} → Table C → ℕ → Database C → List (Option StepRefusal)
purge_causes t number s = then_some (not (has_chunk number t)) (NoChunk number) ∷ full s ∷ []

-- what a command makes of the table of this name, if one stands
abbrev pub on_found : {C : Type 0} → (ℕ → Table C → Result (Database C) StepRefusal) → ℕ → Option (Table C) → Result (Database C) StepRefusal
on_found change at None = Err NoTable
on_found change at (Some t) = change at t

abbrev pub on_place : {C : Type 0} → (ℕ → Table C → Result (Database C) StepRefusal) → Database C → Option ℕ → Result (Database C) StepRefusal
on_place change s None = Err NoTable
on_place change s (Some at) = on_found change at (slice_get s.tables at)

abbrev pub on_table : {C : Type 0} → (ℕ → Table C → Result (Database C) StepRefusal) → List ℕ → Database C → Result (Database C) StepRefusal
on_table change name s = on_place change s (table_number s name)

-- the database after a command, or its first refusal
abbrev pub step : {C : Type 0} → Database C → Command C → Result (Database C) StepRefusal
step s (Create name schema) = given_unless (first_of (create_causes name s)) (with_table name schema s)
step s (Import name content) = on_table (λ at t. given_unless (first_of (import_causes t s)) (with_chunk at t content s)) name s
step s (Purge name number) = on_table (λ at t. given_unless (first_of (purge_causes t number s)) (with_purged at t number s)) name s

-- the same chunk, table, database and command with another content of chunks
abbrev pub map_chunk : {C D : Type 0} → (C → D) → Chunk C → Chunk D
map_chunk f c = record { number = c.number; content = f c.content }

abbrev pub map_table : {C D : Type 0} → (C → D) → Table C → Table D
map_table f t = record { name = t.name; schema = t.schema; chunks = map (map_chunk f) t.chunks }

abbrev pub map_database : {C D : Type 0} → (C → D) → Database C → Database D
map_database f s = record { tables = map (map_table f) s.tables; made = s.made; length = s.length }

abbrev pub map_command : {C D : Type 0} → (C → D) → Command C → Command D
map_command f (Create name schema) = Create name schema
map_command f (Import name content) = Import name (f content)
map_command f (Purge name number) = Purge name number
