-- The rows that stand on pages.
use Rattle.std.proofs.Common.{◌≡◌, ℕ, suc, List, [], ◌∷◌, ◌++◌, map, refl, sym, ap, ◌∙◌, append_assoc}
use Rattle.std.specs.List.{AllByRecursion, flat_map}
use Rattle.std.proofs.lemmas.List.{append-nil, map-append}
use Rattle.std.proofs.lemmas.List.Concat.{flat_map-append}
use Rattle.hv_row.specs.declared.value.Value.{Value}
use Rattle.hv_row.specs.declared.schema.Column.{Column}
use Rattle.hv_row.specs.Row.{RowFits, row_bytes}
use Rattle.hv_row.specs.Packed.{row_spelled}
use Rattle.hv_row.proofs.Spelled.{row_again}
use Rattle.hv_page.specs.Heap.{heap_kind}
use Rattle.hv_page.specs.Fault.{entries_of}
use Rattle.hv_page.specs.Chunk.{IsPacked, IsStored, heap_pages_from, AreHeapPages}
use Rattle.hv_page.proofs.Reading.{made_entries}
use Rattle.hv_chunk.specs.Building.{rows_on}
use Rattle.hv_chunk.proofs.Packing.{flat}

-- the entries of pages are those of which they were made
entries_on : (version number : ℕ) (parts : List (List (List ℕ))) → IsPacked parts → flat_map entries_of (heap_pages_from version number parts) ≡ flat parts
unfolding IsPacked heap_pages_from
entries_on version number [] packed = refl
entries_on version number (p ∷ parts) packed =
    ap (λ (front : List (List ℕ)). front ++ flat_map entries_of (heap_pages_from version (suc number) parts)) (made_entries heap_kind version number p packed.1)
    ∙ ap (λ (later : List (List ℕ)). p ++ later) (entries_on version (suc number) parts packed.3)

-- rows are spelled by their bytes
rows_again : (schema : List Column) (rows : List (List Value)) → AllByRecursion (IsStored schema) rows → map (row_spelled schema) (map (row_bytes schema) rows) ≡ rows
rows_again schema [] stored = refl
rows_again schema (r ∷ rows) stored =
    ap (λ (first : List Value). first ∷ map (row_spelled schema) (map (row_bytes schema) rows)) (row_again schema r stored.0.fits)
    ∙ ap (λ (later : List (List Value)). r ∷ later) (rows_again schema rows stored.1)

-- on the heap pages of rows stand these rows
pub rows_whole : (version : ℕ) (schema : List Column) (pages : List (List ℕ)) (rows : List (List Value)) → AreHeapPages version schema pages rows → rows_on schema pages [] ≡ rows
rows_whole version schema pages rows are =
    ap (map (row_spelled schema)) (append-nil (flat_map entries_of pages) ∙ ap (flat_map entries_of) are.numbered ∙ entries_on version 0 are.parts are.packed ∙ are.slots)
    ∙ rows_again schema rows are.stored

-- one entry more is one row more
pub rows_more : (schema : List Column) (pages entries : List (List ℕ)) (row : List Value) → RowFits schema row → rows_on schema pages (entries ++ row_bytes schema row ∷ []) ≡ rows_on schema pages entries ++ row ∷ []
rows_more schema pages entries row fits =
    let before = flat_map entries_of pages in
    ap (map (row_spelled schema)) (sym (append_assoc before entries (row_bytes schema row ∷ [])))
    ∙ map-append (row_spelled schema) (before ++ entries) (row_bytes schema row ∷ [])
    ∙ ap (λ (last : List Value). rows_on schema pages entries ++ last ∷ []) (row_again schema row fits)

-- where a page is finished its entries stand as before
pub rows_turned : (schema : List Column) (pages : List (List ℕ)) (page : List ℕ) (entries more : List (List ℕ)) → entries_of page ≡ entries → rows_on schema (pages ++ page ∷ []) more ≡ rows_on schema pages (entries ++ more)
rows_turned schema pages page entries more same =
    let before = flat_map entries_of pages in
    ap (λ (front : List (List ℕ)). map (row_spelled schema) (front ++ more)) (flat_map-append entries_of pages (page ∷ []) ∙ ap (λ (last : List (List ℕ)). before ++ last) (append-nil (entries_of page) ∙ same))
    ∙ ap (map (row_spelled schema)) (append_assoc before entries more)
