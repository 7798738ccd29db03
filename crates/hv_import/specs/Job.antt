-- The job that makes a chunk of an import's rows. This project's own.
use Rattle.std.specs.Prelude.{◌≡◌, ℕ, ◌+◌, ◌-◌, ◌<◌, ◌≤◌, ◌⊎◌, Bool, true, false, Option, Some, None, [], List, length, take, IfSome}
use Rattle.hv_row.specs.declared.value.Value.{Value}
use Rattle.hv_row.specs.declared.schema.Column.{Column}
use Rattle.hv_row.specs.Packed.{Packed}
use Rattle.hv_io.specs.Counts.{Rose}
use Rattle.hv_view.specs.View.{IsBuilt}
use Rattle.hv_chunk.specs.Building.{Building, rows_on}
use Rattle.hv_chunk.specs.declared.turn.JobTurn.{JobTurn}
use Rattle.hv_chunk.specs.declared.turn.JobTurn.TheVariants as turn
use Rattle.hv_import.specs.Rows.{AreShort}

-- a job: its schema, all of its rows, how many of them are pushed, the pages that it has written, and whether it is over
pub record Importing : Type 0 where
  pub schema : List Column
  pub rows : List (List Value)
  pub pushed : ℕ
  pub pages : List (List ℕ)
  pub over : Bool

-- the pages of the chunk in the making; a job that is over has none
abbrev pub pages_of : Option Building → List (List ℕ)
pages_of None = []
pages_of (Some building) = building.pages

-- the chunk in the making has the rows that are pushed
pub record HasPushed (packed : Packed) (pushed : ℕ) (building : Building) : Type 0 where
  pub schema_is : building.schema ≡ packed.schema
  pub rows_are : building.rows ≡ take pushed packed.rows

-- what a job keeps: its rows are ones that a chunk may have, and the first of them are in the chunk in the making
pub record IsImporting (packed : Packed) (pushed : ℕ) (building : Option Building) : Type 0 where
  pub few : length packed.rows ≤ 1000000
  pub short : AreShort packed.schema packed.rows
  pub within : pushed ≤ length packed.rows
  pub has : IfSome building (HasPushed packed pushed)

-- rows were pushed until a page was written, which left the last one for the next page, or until none was left
abbrev pub IsPagePushed : Packed → List (List ℕ) → List (List ℕ) → ℕ → Type 0
IsPagePushed packed before after pushed = ((length after ≡ length before + 1) × (rows_on packed.schema after [] ≡ take (pushed - 1) packed.rows)) ⊎ ((after ≡ before) × (pushed ≡ length packed.rows))

-- a turn that isn't the last: a row was left, and rows were pushed until a page was written or none was left, so that fewer are left
pub record Goes (before after : Importing) : Type 0 where
  pub some : before.pushed < after.pushed
  pub within : after.pushed ≤ length before.rows
  pub page : IsPagePushed (record { schema = before.schema; rows = before.rows }) before.pages after.pages after.pushed
  pub going : after.over ≡ false

-- a job that is over has written no pages that are left open
abbrev pub IsOver : Importing → Type 0
IsOver job = (job.over ≡ true) × (job.pages ≡ [])

-- what a turn answers, from its sink's count of faults before and after: it goes on only where a row was left, and makes the chunk of all rows only where
-- none was; a write failed and the count rose; memory. It never waits, and reads nothing.
abbrev pub IsTurn : {File : Type 0} → Bool → (File → List (List ℕ)) → Importing → Importing → ℕ → ℕ → JobTurn File → Type 0
IsTurn tells pages before after faults now turn.Went = Goes before after × (now ≡ faults)
IsTurn tells pages before after faults now (turn.Made chunk) = (before.pushed ≡ length before.rows) × IsBuilt tells pages before.schema before.rows chunk × IsOver after × (now ≡ faults)
IsTurn tells pages before after faults now turn.WriteFault = IsOver after × Rose faults now
IsTurn tells pages before after faults now turn.Memory = IsOver after × (now ≡ faults)
IsTurn tells pages before after faults now turn.Waits = ⊥
IsTurn tells pages before after faults now turn.ReadFault = ⊥
IsTurn tells pages before after faults now (turn.Damaged chunk page why) = ⊥
