-- Tables of a catalogue as the tables of the database that is stored, and the files of their chunks through a step.
use Rattle.std.proofs.Common.{◌≡◌, ℕ, ◌+◌, ◌-◌, ◌≤◌, false, not, inl, inr, List, [], ◌∷◌, ◌++◌, length, Option, Some, None, Ok, refl, sym, ◌∙◌, ap, subst, arith, length-append, append-nil}
use Rattle.std.specs.Prelude.{◌==◌, Result, Err}
use Rattle.std.specs.Bool.{then_some}
use Rattle.std.proofs.lemmas.Bool.{cases_lt}
use Rattle.hv_catalogue.proofs.Kept.{fresh}
use Rattle.std.specs.List.{All, AllByRecursion, flat_map, slice_get}
use Rattle.std.specs.Option.{option_map, option_and_then}
use Rattle.std.proofs.lemmas.List.Elements.{All-nil, All-from_recursion, All-get_or, All-set, All-push, All-weaker, All-filter}
use Rattle.std.proofs.lemmas.List.Folds.{flat_map-map}
use Rattle.std.proofs.lemmas.Option.{slice_get-map, slice_get_within, get_or_from_slice_get}
use Rattle.hv_row.specs.declared.value.Value.{Value}
use Rattle.hv_row.specs.declared.schema.Column.{Column}
use Rattle.hv_model.specs.declared.catalogue.Chunk.{Chunk}
use Rattle.hv_model.specs.declared.catalogue.Table.{Table}
use Rattle.hv_model.specs.declared.catalogue.Database.{Database}
use Rattle.hv_model.specs.declared.catalogue.Command.{Command}
use Rattle.hv_model.specs.declared.catalogue.Command.TheVariants.{Create, Import, Purge}
use Rattle.hv_model.specs.declared.catalogue.StepRefusal.{StepRefusal}
use Rattle.hv_model.specs.declared.catalogue.StepRefusal.TheVariants.{NoChunk}
use Rattle.hv_model.specs.Causes.{first_of, given_unless}
use Rattle.hv_model.specs.Database.{RowChunk, RowTable, map_chunk, map_table, table_number, has_chunk, full, with_table, with_last_chunk, without_chunk, with_chunk, with_purged, create_causes, import_causes, purge_causes, on_found, on_place, step}
use Rattle.hv_model.specs.Command.{table_named}
use Rattle.hv_model.specs.Query.{rows_of_option, rows_of_number}
use Rattle.hv_model.proofs.Mapped.{table_number-map}
use Rattle.hv_model.proofs.Places.{slice_get-last}
use Rattle.hv_view.specs.View.{Viewed}
use Rattle.hv_catalogue.specs.Holding.{Holding, IsKept}
use Rattle.hv_world.specs.Damage.{IsFileOf}
use Rattle.hv_world.specs.Stored.{database_of, AreFiles, HasFiles}
use Rattle.hv_world.proofs.Landed.{get_longer}

-- what holds of each element holds of the one that stands at a number
pub all_stands : {X : Type 0} (P : X → Type 0) (xs : List X) (i : ℕ) (x : X) → All P xs → slice_get xs i ≡ Some x → P x
all_stands P xs i x all stands = subst P (get_or_from_slice_get xs i x x stands) (All-get_or P xs i x (slice_get_within xs i x stands) all)

pub recursion_stands : {X : Type 0} (P : X → Type 0) (xs : List X) (i : ℕ) (x : X) → AllByRecursion P xs → slice_get xs i ≡ Some x → P x
recursion_stands P xs i x all stands = all_stands P xs i x (All-from_recursion P xs all) stands

-- a chunk and a table with rows
abbrev pub row_chunk : {File : Type 0} → Chunk (Viewed File) → RowChunk
row_chunk {File} c = map_chunk (λ (v : Viewed File). v.rows) c

abbrev pub row_table : {File : Type 0} → Table (Viewed File) → RowTable
row_table {File} t = map_table (λ (v : Viewed File). v.rows) t

-- the table of a number in the database
pub table_stands : {File : Type 0} (held : Holding (Viewed File)) (at : ℕ) (t : Table (Viewed File)) → slice_get held.database.tables at ≡ Some t → slice_get (database_of held).tables at ≡ Some (row_table t)
table_stands held at t stands = slice_get-map row_table held.database.tables at ∙ ap (option_map row_table) stands

-- the table of a name in the database
pub named_stands : {File : Type 0} (held : Holding (Viewed File)) (name : List ℕ) → table_named (database_of held) name ≡ option_map row_table (table_named held.database name)
named_stands {File} held name = ap (option_and_then (λ at. slice_get (database_of held).tables at)) (table_number-map (λ (v : Viewed File). v.rows) held.database name) ∙ by (table_number held.database name) where
  by : (o : Option ℕ) → option_and_then (λ at. slice_get (database_of held).tables at) o ≡ option_map row_table (option_and_then (λ at. slice_get held.database.tables at) o)
  by None = refl
  by (Some at) = slice_get-map row_table held.database.tables at

-- the rows of the chunks of a table are those of its number in the database
pub rows_listed : {File : Type 0} (held : Holding (Viewed File)) (at : ℕ) (t : Table (Viewed File)) (rows : List (List Value)) → slice_get held.database.tables at ≡ Some t
    → rows ≡ flat_map (λ c. c.content.rows) t.chunks → rows ≡ rows_of_number (database_of held) at
rows_listed held at t rows stands are =
    are ∙ sym (flat_map-map (λ (c : RowChunk). c.content) row_chunk t.chunks) ∙ ap rows_of_option (sym (table_stands held at t stands))

-- ---- the files of the chunks

-- the files of a table's chunks are among these
abbrev pub HasItsFiles : {File : Type 0} → List File → Table (Viewed File) → Type 0
HasItsFiles files t = All (λ c. IsFileOf files c.number c.content.file) t.chunks

-- a file of a number is that of the number among more files
pub file_longer : {File : Type 0} (files more : List File) (number : ℕ) (file : File) → IsFileOf files number file → IsFileOf (files ++ more) number file
file_longer files more number file is = (is.0, get_longer files more (number - 1) file is.1)

-- these are all
pub has_files : {File : Type 0} (held : Holding (Viewed File)) (files : List File) → AreFiles held files → HasFiles held files
has_files {File} held files are = record { more = []; are = subst (λ (all : List File). AreFiles held all) (sym (append-nil files)) are }

-- a table without a chunk was put behind the others
files_created : {File : Type 0} (before after : Holding (Viewed File)) (name : List ℕ) (schema : List Column) (files : List File) → after.database ≡ with_table name schema before.database → AreFiles before files → AreFiles after files
files_created {File} before after name schema files is are = record {
  count = are.count ∙ ap (λ (d : Database (Viewed File)). d.made) (sym is);
  each = subst (λ (d : Database (Viewed File)). All (HasItsFiles files) d.tables) (sym is)
      (All-push (HasItsFiles files) before.database.tables (record { name = name; schema = schema; chunks = [] }) are.each (All-nil (λ c. IsFileOf files c.number c.content.file)));
}

-- a table has one chunk more
files_imported : {File : Type 0} (before after : Holding (Viewed File)) (at : ℕ) (t : Table (Viewed File)) (content : Viewed File) (files : List File) → slice_get before.database.tables at ≡ Some t
    → after.database ≡ with_chunk at t content before.database → AreFiles before files → AreFiles after (files ++ content.file ∷ [])
files_imported {File} before after at t content files stands is are =
    let more = files ++ content.file ∷ [] in
    let number = before.database.made + 1 in
    let c : Chunk (Viewed File) = record { number = number; content = content } in
    let each : All (HasItsFiles more) before.database.tables =
    All-weaker (HasItsFiles files) (HasItsFiles more)
    (λ t all. All-weaker (λ c. IsFileOf files c.number c.content.file) (λ c. IsFileOf more c.number c.content.file) (λ d is. file_longer files (content.file ∷ []) d.number d.content.file is) t.chunks all)
    before.database.tables are.each in
    let place : number - 1 ≡ length files = (let count : length files ≡ before.database.made = are.count in omega arith) in
    let last : IsFileOf more number content.file = (omega arith, ap (slice_get more) place ∙ slice_get-last files content.file) in
    let its : HasItsFiles more (with_last_chunk t number content) =
    All-push (λ c. IsFileOf more c.number c.content.file) t.chunks c (all_stands (HasItsFiles more) before.database.tables at t each stands) last in record {
      count = length-append files (content.file ∷ []) ∙ ap (λ n. n + 1) are.count ∙ ap (λ (d : Database (Viewed File)). d.made) (sym is);
      each = subst (λ (d : Database (Viewed File)). All (HasItsFiles more) d.tables) (sym is) (All-set (HasItsFiles more) before.database.tables at (with_last_chunk t number content) its each);
    }

-- a table has one chunk less
files_purged : {File : Type 0} (before after : Holding (Viewed File)) (at : ℕ) (t : Table (Viewed File)) (number : ℕ) (files : List File) → slice_get before.database.tables at ≡ Some t
    → after.database ≡ with_purged at t number before.database → AreFiles before files → AreFiles after files
files_purged {File} before after at t number files stands is are =
    let its : HasItsFiles files (without_chunk t number) =
    All-filter (λ c. not (c.number == number)) (λ c. IsFileOf files c.number c.content.file) t.chunks (all_stands (HasItsFiles files) before.database.tables at t are.each stands) in record {
      count = are.count ∙ ap (λ (d : Database (Viewed File)). d.made) (sym is);
      each = subst (λ (d : Database (Viewed File)). All (HasItsFiles files) d.tables) (sym is) (All-set (HasItsFiles files) before.database.tables at (without_chunk t number) its are.each);
    }

-- ---- what a step that is accepted makes

pub given_is : {A Cause : Type 0} (point : Option Cause) (a b : A) → given_unless point a ≡ Ok b → b ≡ a
given_is None a b e = let same : a ≡ b = cc in sym same
given_is (Some cause) a b e = absurd cc

-- a change of the table of a name that stands
pub record OnTable {C : Type 0} (change : ℕ → Table C → Result (Database C) StepRefusal) (s after : Database C) : Type 0 where
  pub at : ℕ
  pub table : Table C
  pub stands : slice_get s.tables at ≡ Some table
  pub made : change at table ≡ Ok after

of_found : {C : Type 0} (change : ℕ → Table C → Result (Database C) StepRefusal) (s after : Database C) (at : ℕ) (found : Option (Table C)) → slice_get s.tables at ≡ found → on_found change at found ≡ Ok after → OnTable change s after
of_found change s after at None is e = absurd cc
of_found change s after at (Some t) is e = record { at = at; table = t; stands = is; made = e }

pub of_place : {C : Type 0} (change : ℕ → Table C → Result (Database C) StepRefusal) (s after : Database C) (place : Option ℕ) → on_place change s place ≡ Ok after → OnTable change s after
of_place change s after None e = absurd cc
of_place change s after (Some at) e = of_found change s after at (slice_get s.tables at) refl e

-- the files are those there were, and that of a new chunk
pub files_stepped : {File : Type 0} (before after : Holding (Viewed File)) (c : Command (Viewed File)) → step before.database c ≡ Ok after.database → (files : List File) → AreFiles before files → HasFiles after files
files_stepped before after (Create name schema) steps files are =
    has_files after files (files_created before after name schema files (given_is (first_of (create_causes name before.database)) (with_table name schema before.database) after.database steps) are)
files_stepped before after (Import name content) steps files are =
    let found = of_place (λ at t. given_unless (first_of (import_causes t before.database)) (with_chunk at t content before.database)) before.database after.database (table_number before.database name) steps in record {
      more = content.file ∷ [];
      are = files_imported before after found.at found.table content files found.stands
          (given_is (first_of (import_causes found.table before.database)) (with_chunk found.at found.table content before.database) after.database found.made) are;
    }
files_stepped before after (Purge name chunk) steps files are =
    let found = of_place (λ at t. given_unless (first_of (purge_causes t chunk before.database)) (with_purged at t chunk before.database)) before.database after.database (table_number before.database name) steps in
    has_files after files (files_purged before after found.at found.table chunk files found.stands
    (given_is (first_of (purge_causes found.table chunk before.database)) (with_purged found.at found.table chunk before.database) after.database found.made) are)

-- a chunk that is purged has a number that was given
pub purge_within : {File : Type 0} (held : Holding (Viewed File)) (name : List ℕ) (chunk : ℕ) (after : Database (Viewed File)) → IsKept held → step held.database (Purge name chunk) ≡ Ok after → chunk ≤ held.database.made
purge_within {File} held name chunk after kept steps =
    let s = held.database in
    let found = of_place (λ at t. given_unless (first_of (purge_causes t chunk s)) (with_purged at t chunk s)) s after (table_number s name) steps in
    elim (cases_lt s.made chunk) [
      | inl past ↦ (let none : has_chunk chunk found.table ≡ false = fresh held found.at found.table chunk kept past found.stands in
          let refused : given_unless (first_of (purge_causes found.table chunk s)) (with_purged found.at found.table chunk s) ≡ Err (NoChunk chunk) =
          ap (λ b. given_unless (first_of (then_some (not b) (NoChunk chunk) ∷ full s ∷ [])) (with_purged found.at found.table chunk s)) none in
          let both : Err (NoChunk chunk) ≡ Ok after = sym refused ∙ found.made in
          absurd cc)
      | inr within ↦ within
    ]
