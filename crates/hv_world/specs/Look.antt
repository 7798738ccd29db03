-- What a statement read of the catalogue, and what an import found there. This project's own.
use Rattle.std.specs.Prelude.{◌≡◌, ℕ, ◌<◌, Bool, List, [], length, Some, Ok}
use Rattle.hv_row.specs.declared.value.Value.{Value}
use Rattle.hv_row.specs.declared.schema.Column.{Column}
use Rattle.hv_view.specs.View.{Viewed}
use Rattle.hv_model.specs.declared.tree.Ast.TheVariants as ast
use Rattle.hv_model.specs.declared.tree.Word.{Word}
use Rattle.hv_model.specs.declared.script.Statement.{Statement}
use Rattle.hv_model.specs.declared.catalogue.Table.{Table}
use Rattle.hv_model.specs.Parsed.{parsed}
use Rattle.hv_model.specs.Import.{rows_of}
use Rattle.hv_model.specs.Command.{table_named}
use Rattle.hv_catalogue.specs.Holding.{Holding}
use Rattle.hv_world.specs.declared.stage.Look.{Look}
use Rattle.hv_world.specs.Stored.{IsSound}
use Rattle.hv_world.specs.Reads.{PortSeen}

-- what was read of a sound catalogue, at its length
pub record IsLook {File : Type 0} (tells : Bool) (pages : File → List (List ℕ)) (look : Look File) : Type 0 where
  pub at_is : look.at ≡ length look.held.value.history
  pub sound : IsSound tells pages look.held.value

-- the table of this name stands, under this schema
pub record HasTable {File : Type 0} (held : Holding (Viewed File)) (name : List ℕ) (schema : List Column) : Type 0 where
  pub table : Table (Viewed File)
  pub named : table_named held.database name ≡ Some table
  pub schema_is : table.schema ≡ schema

-- each table stands under its schema as before
abbrev pub KeepsTables : {File : Type 0} → Holding (Viewed File) → Holding (Viewed File) → Type 0
KeepsTables {File} held new = (name : List ℕ) (schema : List Column) → HasTable held name schema → HasTable new name schema

-- the statement imports into a table of this name
abbrev pub Imports : Statement → Word → Type 0
Imports x table = (wanted : ℕ) × (parsed x.text ≡ Ok (ast.Import table wanted))

-- so it does these rows, which its data spells under the schema of the table
pub record ImportsRows {File : Type 0} (x : Statement) (table : Word) (held : Holding (Viewed File)) (schema : List Column) (rows : List (List Value)) : Type 0 where
  pub imports : Imports x table
  pub stands : HasTable held table.name schema
  pub spelled : rows_of schema x.lines ≡ Ok rows

-- a port with room for a read and none under way, whose open file has these pages
pub record IsOpen {File : Type 0} (port : PortSeen File) (pages : List (List ℕ)) : Type 0 where
  pub room : 0 < port.reading.room
  pub none : port.reading.in_flight ≡ []
  pub written_is : port.written ≡ Some pages
