-- What a catalogue holds, and what its calls owe. This project's own.
use Rattle.std.specs.Prelude.{◌≡◌, ℕ, ◌<◌, ◌≤◌, ◌==◌, Bool, List, [], ◌∷◌, ◌++◌, length, map, position, is_none, Option, Some, None, Ok, Err, slice_get}
use Rattle.std.specs.List.{All, cons_option, sum_by, count_by}
use Rattle.std.specs.Option.{option_map}
use Rattle.hv_row.specs.Schema.{same_name}
use Rattle.hv_model.specs.declared.catalogue.Chunk.{Chunk}
use Rattle.hv_model.specs.declared.catalogue.Table.{Table}
use Rattle.hv_model.specs.declared.catalogue.TableHead.{TableHead}
use Rattle.hv_model.specs.declared.catalogue.Database.{Database}
use Rattle.hv_model.specs.declared.catalogue.Command.{Command}
use Rattle.hv_model.specs.declared.catalogue.Command.TheVariants as command
use Rattle.hv_model.specs.declared.catalogue.StepRefusal.{StepRefusal}
use Rattle.hv_model.specs.declared.catalogue.StepRefusal.TheVariants as unstepped
use Rattle.hv_model.specs.declared.catalogue.Entry.{Entry}
use Rattle.hv_model.specs.Database.{table_number, step}
use Rattle.hv_model.specs.Selected.{head_named}
use Rattle.hv_model.specs.Command.{table_named, told_of, step_cause}
use Rattle.hv_view.specs.View.{Viewed, IsBuilt}
use Rattle.hv_view.specs.declared.held.HeldChunk.{HeldChunk}
use Rattle.hv_view.specs.declared.held.HeldTable.{HeldTable}
use Rattle.hv_catalogue.specs.declared.command.ChunkCommand.{ChunkCommand}
use Rattle.hv_catalogue.specs.declared.command.ChunkCommand.TheVariants as chunked
use Rattle.hv_catalogue.specs.declared.command.ApplyFault.{ApplyFault}
use Rattle.hv_catalogue.specs.declared.command.ApplyFault.TheVariants as unapplied
use Rattle.hv_catalogue.specs.declared.taken.Taken.{Taken}
use Rattle.hv_catalogue.specs.declared.taken.SnapFault.{SnapFault}
use Rattle.hv_catalogue.specs.declared.taken.SnapFault.TheVariants as untaken

-- what a catalogue holds: the database of its chunks, and the entries of the commands that made it
pub record Holding (C : Type 0) : Type 0 where
  pub database : Database C
  pub history : List Entry

-- how many chunks of this number a table has
abbrev pub numbered_in : {C : Type 0} → ℕ → Table C → ℕ
numbered_in number t = count_by (λ c. c.number == number) t.chunks

-- how many chunks of this number stand
abbrev pub standing : {C : Type 0} → ℕ → Database C → ℕ
standing number s = sum_by (numbered_in number) s.tables

-- what is true of all that a catalogue holds: the history is counted; tables have names of their own, and chunks numbers of their own over all
-- tables, none above those made; all within the limits of a database
pub record IsKept {C : Type 0} (held : Holding C) : Type 0 where
  pub counted : held.database.length ≡ length held.history
  pub named : (name : List ℕ) → count_by (λ t. same_name t.name name) held.database.tables ≤ 1
  pub numbered : (number : ℕ) → standing number held.database ≤ 1
  pub made : (number : ℕ) → held.database.made < number → standing number held.database ≡ 0
  pub made_few : held.database.made ≤ length held.history
  pub tables_made : length held.database.tables ≤ length held.history
  pub tables_few : length held.database.tables ≤ 64
  pub chunks_few : All (λ t. length t.chunks ≤ 1024) held.database.tables
  pub entries_few : length held.history ≤ 65536

-- what a command asks of the database
abbrev pub meant : {C : Type 0} → ChunkCommand C → Command C
meant (chunked.Create table schema) = command.Create table schema
meant (chunked.Import table chunk) = command.Import table chunk
meant (chunked.Purge table chunk) = command.Purge table chunk

-- each chunk of a table is built of its rows under the table's schema
abbrev pub AreBuilt : {C File : Type 0} → (C → Viewed File) → Bool → (File → List (List ℕ)) → Database C → Type 0
AreBuilt viewed tells pages s = All (λ t. All (λ c. IsBuilt tells pages t.schema (viewed c.content).rows (viewed c.content)) t.chunks) s.tables

-- the chunk that a command brings is built of its rows under the schema of its table, if that stands
abbrev pub BringsBuilt : {C File : Type 0} → (C → Viewed File) → Bool → (File → List (List ℕ)) → Database C → ChunkCommand C → Type 0
BringsBuilt viewed tells pages s (chunked.Create table schema) = Unit {0}
BringsBuilt {C} viewed tells pages s (chunked.Import table chunk) = (t : Table C) → table_named s table ≡ Some t → IsBuilt tells pages t.schema (viewed chunk).rows (viewed chunk)
BringsBuilt viewed tells pages s (chunked.Purge table chunk) = Unit {0}

-- a command was carried out: the database stepped, and its entry, of this session and number, stands last
pub record IsApplied {C : Type 0} (count : C → ℕ) (before after : Holding C) (session : List ℕ) (number : ℕ) (c : Command C) (at : ℕ) : Type 0 where
  pub steps : step before.database c ≡ Ok after.database
  pub longer : after.history ≡ before.history ++ (record { session = session; number = number; what = told_of count before.database c }) ∷ []
  pub at_is : at ≡ length after.history

-- the database has become this, with this entry last in the history
pub record IsStepped {C : Type 0} (before after : Holding C) (became : Database C) (entry : Entry) : Type 0 where
  pub database : after.database ≡ became
  pub history : after.history ≡ before.history ++ entry ∷ []

-- the fault for a refusal, at this length of the history
abbrev pub fault_at : ℕ → StepRefusal → ApplyFault
fault_at at unstepped.NoTable = unapplied.NoTable at
fault_at at why = unapplied.Refused at (step_cause 0 why)

-- why a command was not carried out
abbrev pub IsUnapplied : {C : Type 0} → Holding C → Command C → ApplyFault → Type 0
IsUnapplied held c (unapplied.NoTable at) = (step held.database c ≡ Err unstepped.NoTable) × (at ≡ length held.history)
IsUnapplied held c (unapplied.Refused at cause) = (why : StepRefusal) × (step held.database c ≡ Err why) × (why ≡ unstepped.NoTable → ⊥) × (cause ≡ step_cause 0 why) × (at ≡ length held.history)
IsUnapplied {C} held c unapplied.Memory = (after : Database C) × (step held.database c ≡ Ok after)

-- the heads of tables by their names, as far as they stand
abbrev pub heads_named : {C : Type 0} → Database C → List (List ℕ) → List TableHead
heads_named s [] = []
heads_named s (name ∷ names) = cons_option (head_named s name) (heads_named s names)

-- a chunk and a table as a query holds them
abbrev pub held_chunk : {C : Type 0} → Chunk C → HeldChunk C
held_chunk c = record { chunk = c.number; view = c.content }

abbrev pub held_table : {C : Type 0} → Table C → HeldTable C
held_table t = record { chunks = map held_chunk t.chunks }

-- the tables of these names as a query holds them, as far as they stand
abbrev pub held_named : {C : Type 0} → Database C → List (List ℕ) → List (HeldTable C)
held_named s [] = []
held_named s (name ∷ names) = cons_option (option_map held_table (table_named s name)) (held_named s names)

-- the place, from 0, of the first of these names of which no table stands
abbrev pub first_unnamed : {C : Type 0} → Database C → List (List ℕ) → Option ℕ
first_unnamed s names = position (λ name. is_none (table_number s name)) names

-- the tables of these names were taken at the present length
pub record IsTaken {C : Type 0} (held : Holding C) (names : List (List ℕ)) (taken : Taken C) : Type 0 where
  pub all : first_unnamed held.database names ≡ None
  pub at_is : taken.at ≡ length held.history
  pub heads : taken.heads ≡ heads_named held.database names
  pub each : (place : ℕ) (name : List ℕ) (t : Table C) → slice_get names place ≡ Some name → table_named held.database name ≡ Some t
      → slice_get taken.view.tables place ≡ Some (held_table t)
  pub count : length taken.view.tables ≡ length names

-- why nothing was taken
abbrev pub IsUntaken : {C : Type 0} → Holding C → List (List ℕ) → SnapFault → Type 0
IsUntaken held names (untaken.NoTable place at) = (first_unnamed held.database names ≡ Some place) × (at ≡ length held.history)
IsUntaken held names untaken.Memory = first_unnamed held.database names ≡ None
