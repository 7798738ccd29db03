-- A chunk in the making. This project's own.
use Rattle.std.specs.Prelude.{◌≡◌, ℕ, ◌+◌, ◌<◌, ◌≤◌, ◌⊎◌, List, [], ◌++◌, length, map}
use Rattle.std.specs.List.{flat_map}
use Rattle.hv_row.specs.declared.value.Value.{Value}
use Rattle.hv_row.specs.declared.schema.Column.{Column}
use Rattle.hv_row.specs.Packed.{row_spelled}
use Rattle.hv_io.specs.Counts.{Rose}
use Rattle.hv_page.specs.Fault.{entries_of}
use Rattle.hv_chunk.specs.declared.fault.BuildFault.{BuildFault}
use Rattle.hv_chunk.specs.declared.fault.BuildFault.TheVariants.{TooLong, Write, Memory}

-- what a builder has: its schema, the rows that were pushed, and the pages that it has written
pub record Building : Type 0 where
  pub schema : List Column
  pub rows : List (List Value)
  pub pages : List (List ℕ)

-- the rows that stand on heap pages, and then in these entries
abbrev pub rows_on : List Column → List (List ℕ) → List (List ℕ) → List (List Value)
rows_on schema pages entries = map (row_spelled schema) (flat_map entries_of pages ++ entries)

-- at most one page was written for a row more: that of rows before it, all of which then stand on pages
abbrev pub WritesOne : Building → Building → Type 0
WritesOne before after = (after.pages ≡ before.pages) ⊎ ((length after.pages ≡ length before.pages + 1) × (rows_on before.schema after.pages [] ≡ before.rows))

-- why no row was pushed, or no chunk made: the row takes so many bytes; a write failed and the sink's count rose; memory
abbrev pub IsBuildFault : BuildFault → ℕ → ℕ → ℕ → Type 0
IsBuildFault TooLong long before now = (2000 < long) × (now ≡ before)
IsBuildFault Write long before now = (long ≤ 2000) × Rose before now
IsBuildFault Memory long before now = (long ≤ 2000) × (now ≡ before)
