-- Heap pages: their entries are rows. This project's own.
use Rattle.std.specs.Prelude.{ℕ, ◌≤◌, List, length}
use Rattle.hv_row.specs.declared.schema.Column.{Column}
use Rattle.hv_row.specs.Spelling.{IsSpelling}
use Rattle.hv_page.specs.Layout.{IsPage}

-- the kind of a heap page
abbrev pub heap_kind : ℕ
heap_kind = 1

-- an entry of a heap page: a row of the schema, of at most 2,000 bytes
pub record IsHeapEntry (schema : List Column) (entry : List ℕ) : Type 0 where
  pub short : length entry ≤ 2000
  pub row : IsSpelling schema entry

-- a heap page of a version and number, with these entries under a schema
abbrev pub IsHeapPage : ℕ → ℕ → List Column → List ℕ → List (List ℕ) → Type 0
IsHeapPage version number schema page entries = IsPage heap_kind version number (IsHeapEntry schema) page entries
