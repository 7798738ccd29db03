-- Rows packed into heap pages one after another. This project's own.
use Rattle.std.specs.Prelude.{◌≡◌, ℕ, ◌+◌, ◌<◌, ◌⊎◌, true, false, List, [], ◌∷◌, ◌++◌, length, take, drop}
use Rattle.hv_row.specs.declared.value.Value.{Value}
use Rattle.hv_row.specs.declared.schema.Column.{Column}
use Rattle.hv_row.specs.Row.{row_bytes}
use Rattle.hv_page.specs.Layout.{Fit, used_by, page_of, written_version}
use Rattle.hv_page.specs.Heap.{heap_kind}
use Rattle.hv_heap.specs.declared.writer.Placed.{Placed}

-- what a writer has: its schema, how many rows were added, the number of the page that is being made and its entries, and the finished page before it
pub record Packing : Type 0 where
  pub schema : List Column
  pub added : ℕ
  pub number : ℕ
  pub entries : List (List ℕ)
  pub done : List ℕ

-- the page that is being made
abbrev pub page_now : Packing → List ℕ
page_now packing = page_of heap_kind written_version packing.number packing.entries

-- the page that starts at a place of a longer list
abbrev pub page_at : ℕ → List ℕ → List ℕ
page_at from room = take 4096 (drop from room)

-- a row went behind the entries of the page, where it fitted
pub record Stays (before after : Packing) (entry : List ℕ) (placed : Placed) : Type 0 where
  pub fits : Fit (before.entries ++ entry ∷ [])
  pub is : after ≡ record { schema = before.schema; added = before.added + 1; number = before.number; entries = before.entries ++ entry ∷ []; done = before.done }
  pub page : placed.id.page ≡ before.number
  pub slot : placed.id.slot ≡ length before.entries
  pub full : placed.full ≡ false

-- a row began the next page, as it didn't fit; the page before is finished
pub record Begins (before after : Packing) (entry : List ℕ) (placed : Placed) : Type 0 where
  pub full_page : 4096 < used_by (before.entries ++ entry ∷ [])
  pub is : after ≡ record { schema = before.schema; added = before.added + 1; number = before.number + 1; entries = entry ∷ []; done = page_now before }
  pub page : placed.id.page ≡ before.number + 1
  pub slot : placed.id.slot ≡ 0
  pub full : placed.full ≡ true

-- where a row was placed: on the page where it fitted, else on the next one
abbrev pub IsPlaced : Packing → Packing → List Value → Placed → Type 0
IsPlaced before after row placed = Stays before after (row_bytes before.schema row) placed ⊎ Begins before after (row_bytes before.schema row) placed
