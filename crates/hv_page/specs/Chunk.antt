-- The pages of a chunk: its rows in order, packed greedily. This project's own.
use Rattle.std.specs.Prelude.{◌≡◌, ℕ, suc, ◌<◌, ◌≤◌, List, [], ◌∷◌, ◌++◌, length, take, map}
use Rattle.std.specs.List.{AllByRecursion, flat_map}
use Rattle.sha2.specs.Sha256.{sha256}
use Rattle.hv_row.specs.declared.value.Value.{Value}
use Rattle.hv_row.specs.declared.schema.Column.{Column}
use Rattle.hv_row.specs.Row.{RowFits, row_bytes}
use Rattle.hv_page.specs.Layout.{Fit, used_by, page_of}
use Rattle.hv_page.specs.Heap.{heap_kind}

-- the first entry of the page that comes next didn't fit behind these entries
abbrev pub DidNotFit : List (List ℕ) → List (List (List ℕ)) → Type 0
DidNotFit entries [] = Unit {0}
DidNotFit entries ([] ∷ pages) = ⊥
DidNotFit entries ((first ∷ others) ∷ pages) = 4096 < used_by (entries ++ first ∷ [])

-- entries page by page: each page has one and all its entries fit, and a page begins only where its first entry didn't fit on the page before
unfoldable pub IsPacked : List (List (List ℕ)) → Type 0
IsPacked [] = Unit {0}
IsPacked (entries ∷ pages) = (0 < length entries) × Fit entries × DidNotFit entries pages × IsPacked pages

-- the heap pages of these entries, numbered in order from a page on
unfoldable pub heap_pages_from : ℕ → ℕ → List (List (List ℕ)) → List (List ℕ)
heap_pages_from version number [] = []
heap_pages_from version number (entries ∷ pages) = page_of heap_kind version number entries ∷ heap_pages_from version (suc number) pages

-- a row that a page may hold: it fits the schema and takes at most 2,000 bytes
pub record IsStored (schema : List Column) (row : List Value) : Type 0 where
  pub fits : RowFits schema row
  pub short : length (row_bytes schema row) ≤ 2000

-- these are the heap pages of rows under a schema: they hold the rows in order, packed greedily, and there are no others
pub record AreHeapPages (version : ℕ) (schema : List Column) (pages : List (List ℕ)) (rows : List (List Value)) : Type 0 where
  pub stored : AllByRecursion (IsStored schema) rows
  pub parts : List (List (List ℕ))
  pub packed : IsPacked parts
  pub slots : flat_map (λ part. part) parts ≡ map (row_bytes schema) rows
  pub numbered : pages ≡ heap_pages_from version 0 parts

-- a chunk of rows: its heap pages come first, how many they are, how many rows it has, and a digest for each page (SHA-256, FIPS 180-4)
pub record IsChunk (version : ℕ) (schema : List Column) (pages : List (List ℕ)) (rows : List (List Value)) (digests : List (List ℕ)) (heap_pages row_count : ℕ) : Type 0 where
  pub within : heap_pages ≤ length pages
  pub heap : AreHeapPages version schema (take heap_pages pages) rows
  pub all : length pages ≡ heap_pages
  pub counted : row_count ≡ length rows
  pub digested : digests ≡ map sha256 pages
