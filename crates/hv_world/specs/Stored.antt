-- What a catalogue of chunks in sealed files is: the database of their rows, and the files of all chunks ever made. This project's own.
use Rattle.std.specs.Prelude.{◌≡◌, ℕ, Bool, List, ◌++◌, length}
use Rattle.std.specs.List.{All}
use Rattle.hv_model.specs.Database.{RowDatabase, map_database}
use Rattle.hv_view.specs.View.{Viewed}
use Rattle.hv_catalogue.specs.Holding.{Holding, AreBuilt}
use Rattle.hv_world.specs.Damage.{IsFileOf}

-- the database that is stored
abbrev pub database_of : {File : Type 0} → Holding (Viewed File) → RowDatabase
database_of held = map_database (λ c. c.rows) held.database

-- each chunk of each table is the chunk of its rows under the table's schema
abbrev pub IsSound : {File : Type 0} → Bool → (File → List (List ℕ)) → Holding (Viewed File) → Type 0
IsSound tells pages held = AreBuilt (λ c. c) tells pages held.database

-- these are the files of the chunks ever made, by number: those of the chunks that stand are their files
pub record AreFiles {File : Type 0} (held : Holding (Viewed File)) (files : List File) : Type 0 where
  pub count : length files ≡ held.database.made
  pub each : All (λ t. All (λ c. IsFileOf files c.number c.content.file) t.chunks) held.database.tables

-- so are these and some more
pub record HasFiles {File : Type 0} (held : Holding (Viewed File)) (files : List File) : Type 0 where
  pub more : List File
  pub are : AreFiles held (files ++ more)
