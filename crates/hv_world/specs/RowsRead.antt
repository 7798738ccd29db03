-- The rows that pages give. This project's own.
use Rattle.std.specs.Prelude.{◌≡◌, ℕ, ◌<◌, List, [], ◌++◌, All, Some, map, slice_get, length, get_or, take}
use Rattle.std.specs.List.{flat_map}
use Rattle.hv_row.specs.declared.value.Value.{Value}
use Rattle.hv_row.specs.declared.schema.Column.{Column}
use Rattle.hv_row.specs.Row.{RowFits, row_bytes}
use Rattle.hv_page.specs.Layout.{written_version}
use Rattle.hv_page.specs.Heap.{IsHeapPage}
use Rattle.hv_page.specs.Chunk.{AreHeapPages}
use Rattle.hv_view.specs.View.{Viewed}

-- the rows that these entries spell went behind the rows
pub record AddsRows (schema : List Column) (entries : List (List ℕ)) (before after : List (List Value)) : Type 0 where
  pub rows : List (List Value)
  pub fit : All (RowFits schema) rows
  pub spelt : map (row_bytes schema) rows ≡ entries
  pub added : after ≡ before ++ rows

-- a page of these pages is the heap page of these entries
pub record HasEntries (schema : List Column) (pages : List (List ℕ)) (page : ℕ) (entries : List (List ℕ)) : Type 0 where
  pub bytes : List ℕ
  pub stands : slice_get pages page ≡ Some bytes
  pub whole : IsHeapPage written_version page schema bytes entries

-- these bytes are a page of a chunk as it was written
abbrev pub IsAsWritten : {File : Type 0} → Viewed File → ℕ → List ℕ → Type 0
IsAsWritten chunk page bytes = (pages : List (List ℕ)) → AreHeapPages chunk.version chunk.schema pages chunk.rows → slice_get pages page ≡ Some bytes

-- the rows of a page of a chunk, as it was written, went behind the rows
abbrev pub AddsPage : {File : Type 0} → Viewed File → ℕ → List (List Value) → List (List Value) → Type 0
AddsPage chunk page before after =
    (pages : List (List ℕ)) → AreHeapPages chunk.version chunk.schema pages chunk.rows
    → (entries : List (List ℕ)) → HasEntries chunk.schema pages page entries → AddsRows chunk.schema entries before after

-- these are the entries of the first pages, part by part
pub record AreParts (schema : List Column) (pages : List (List ℕ)) (count : ℕ) (parts : List (List (List ℕ))) : Type 0 where
  pub counted : length parts ≡ count
  pub each : (page : ℕ) → page < count → HasEntries schema pages page (get_or parts page [])

-- the rows of the first pages of a chunk, as they were written, went behind the rows
abbrev pub AddsPages : {File : Type 0} → Viewed File → ℕ → List (List Value) → List (List Value) → Type 0
AddsPages chunk page before now =
    (pages : List (List ℕ)) (parts : List (List (List ℕ))) → AreHeapPages chunk.version chunk.schema pages chunk.rows → AreParts chunk.schema pages chunk.heap_pages parts
    → AddsRows chunk.schema (flat_map (λ part. part) (take page parts)) before now
