-- Where a row was placed, told by what was pushed.
use Rattle.std.proofs.Common.{◌≡◌, ℕ, ◌+◌, ◌<◌, Bool, true, false, not, List, [], ◌∷◌, ◌++◌, length, refl, ap, inl, inr}
use Rattle.hv_row.specs.declared.value.Value.{Value}
use Rattle.hv_row.specs.Row.{row_bytes}
use Rattle.hv_page.specs.Layout.{IsBegun, used_by}
use Rattle.hv_page.specs.Heap.{heap_kind}
use Rattle.hv_page.specs.Fault.{entries_of}
use Rattle.hv_heap.specs.declared.writer.Placed.{Placed}
use Rattle.hv_heap.specs.Writer.{Packing, page_now, IsPlaced}
use Rattle.hv_heap.proofs.Begun.{begun_entries}

-- on the page that is being made
pub placed_here : (before : Packing) (row : List Value) (page entry : List ℕ) (slot : ℕ) (fits : Bool)
    → entry ≡ row_bytes before.schema row → slot ≡ length before.entries → fits ≡ true
    → IsBegun heap_kind before.number page (before.entries ++ entry ∷ [])
    → IsPlaced before (record { schema = before.schema; added = before.added + 1; number = before.number; entries = entries_of page; done = before.done }) row (record { id = record { page = before.number; slot = slot }; full = not fits })
placed_here before row page entry slot fits spelt behind fitted begun =
    rw (← spelt) (inl (record {
      fits = begun.fit;
      is = ap (λ (entries : List (List ℕ)). record { schema = before.schema; added = before.added + 1; number = before.number; entries = entries; done = before.done }) (begun_entries begun);
      page = refl;
      slot = behind;
      full = ap not fitted;
    }))

-- on the next page
pub placed_next : (before : Packing) (row : List Value) (page done entry : List ℕ) (fits : Bool)
    → entry ≡ row_bytes before.schema row → fits ≡ false
    → 4096 < used_by (before.entries ++ entry ∷ [])
    → IsBegun heap_kind (before.number + 1) page (entry ∷ [])
    → done ≡ page_now before
    → IsPlaced before (record { schema = before.schema; added = before.added + 1; number = before.number + 1; entries = entries_of page; done = done }) row (record { id = record { page = before.number + 1; slot = 0 }; full = not fits })
placed_next before row page done entry fits spelt fitted over begun finished =
    rw (← spelt) (inr (record {
      full_page = over;
      is = rw (begun_entries begun, finished) refl;
      page = refl;
      slot = refl;
      full = ap not fitted;
    }))

-- a row is counted wherever it was placed
pub placed_counts : {before after : Packing} (row : List Value) (placed : Placed) → IsPlaced before after row placed → after.added ≡ before.added + 1
placed_counts _ _ (inl here) = ap (λ (p : Packing). p.added) here.is
placed_counts _ _ (inr next) = ap (λ (p : Packing). p.added) next.is

-- and leaves the schema as it is
pub placed_schema : {before after : Packing} (row : List Value) (placed : Placed) → IsPlaced before after row placed → after.schema ≡ before.schema
placed_schema _ _ (inl here) = ap (λ (p : Packing). p.schema) here.is
placed_schema _ _ (inr next) = ap (λ (p : Packing). p.schema) next.is
