-- A statement under way: what is known of it between two of its steps, and how much is left of it. This project's own.
use Rattle.std.specs.Prelude.{◌≡◌, ℕ, ◌+◌, ◌-◌, ◌^◌, Bool, false, List, length, Option, Some, None}
use Rattle.hv_view.specs.View.{Viewed, IsBuilt}
use Rattle.hv_row.specs.declared.schema.Column.{Column}
use Rattle.hv_model.specs.declared.script.Statement.{Statement}
use Rattle.hv_catalogue.specs.Holding.{Holding}
use Rattle.hv_import.specs.Job.{Importing}
use Rattle.hv_model.specs.declared.tree.Word.{Word}
use Rattle.hv_world.specs.declared.select.SelectJob.{SelectJob}
use Rattle.hv_world.specs.declared.stage.Look.{Look}
use Rattle.hv_world.specs.declared.stage.Stage.{Stage}
use Rattle.hv_world.specs.declared.stage.Stage.TheVariants.{Unbegun, Rows, Building, Made, Reading}
use Rattle.hv_world.specs.Look.{IsLook, HasTable, Imports, ImportsRows, IsOpen}
use Rattle.hv_world.specs.Selecting.{IsSelecting}
use Rattle.hv_world.specs.Reads.{PortSeen, IsIdle}

-- the most steps that a statement takes
abbrev pub most_steps : ℕ
most_steps = 2 ^ 64 + 1

-- how many steps a statement takes at most from here on
abbrev pub left_of : {File : Type 0} → Stage File → ℕ
left_of Unbegun = most_steps
left_of (Rows table look) = 1000003
left_of (Building table look job) = 2 + (length job.rows - job.pushed)
left_of (Made table look chunk) = 1
left_of (Reading job) = job.left + 1

-- what a statement last read of the catalogue, if it did
abbrev pub look_of : {File : Type 0} → Stage File → Option (Look File)
look_of Unbegun = None
look_of (Rows table look) = Some look
look_of (Building table look job) = Some look
look_of (Made table look chunk) = Some look
look_of (Reading job) = Some job.look

-- what the catalogue held then; what it holds now where it was not read
abbrev pub basis : {File : Type 0} → Holding (Viewed File) → Option (Look File) → Holding (Viewed File)
basis now None = now
basis now (Some look) = look.held.value

-- an import whose table stands, its rows unread
pub record IsLookedUp {File : Type 0} (tells : Bool) (pages : File → List (List ℕ)) (x : Statement) (now : Holding (Viewed File)) (table : Word) (look : Look File) (port : PortSeen File) : Type 0 where
  pub idle : IsIdle port
  pub looked : IsLook tells pages look
  pub imports : Imports x table
  pub schema : List Column
  pub stands : HasTable now table.name schema

-- an import whose rows go to pages
pub record IsBuilding {File : Type 0} (tells : Bool) (pages : File → List (List ℕ)) (x : Statement) (now : Holding (Viewed File)) (table : Word) (look : Look File) (job : Importing) (port : PortSeen File) : Type 0 where
  pub open_file : IsOpen port job.pages
  pub looked : IsLook tells pages look
  pub going : job.over ≡ false
  pub imports : ImportsRows x table now job.schema job.rows

-- an import whose chunk is sealed
pub record IsSealed {File : Type 0} (tells : Bool) (pages : File → List (List ℕ)) (x : Statement) (now : Holding (Viewed File)) (table : Word) (look : Look File) (chunk : Viewed File) (port : PortSeen File) : Type 0 where
  pub idle : IsIdle port
  pub looked : IsLook tells pages look
  pub imports : ImportsRows x table now chunk.schema chunk.rows
  pub built : IsBuilt tells pages chunk.schema chunk.rows chunk

-- a query that reads its tables
pub record IsReading {File : Type 0} (tells : Bool) (pages : File → List (List ℕ)) (x : Statement) (job : SelectJob File) (port : PortSeen File) : Type 0 where
  pub idle : IsIdle port
  pub selecting : IsSelecting tells pages x job port.reading.landings

-- what is known of a statement between two of its steps, over what the catalogue holds now and the session's port
abbrev pub IsStaged : {File : Type 0} → Bool → (File → List (List ℕ)) → Statement → Holding (Viewed File) → Stage File → PortSeen File → Type 0
IsStaged tells pages x now Unbegun port = IsIdle port
IsStaged tells pages x now (Rows table look) port = IsLookedUp tells pages x now table look port
IsStaged tells pages x now (Building table look job) port = IsBuilding tells pages x now table look job port
IsStaged tells pages x now (Made table look chunk) port = IsSealed tells pages x now table look chunk port
IsStaged tells pages x now (Reading job) port = IsReading tells pages x job port
