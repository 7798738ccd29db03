-- Rows that go behind others, page by page, and the entries of a page of packed rows.
use Rattle.std.proofs.Common.{◌≡◌, ℕ, zero, suc, ◌+◌, ◌<◌, ◌≤◌, List, [], ◌∷◌, ◌++◌, length, get_or, take, map, Some, slice_get, refl, sym, ap, subst, ◌∙◌, append_assoc, add-zero, arith}
use Rattle.std.specs.List.{AllByRecursion}
use Rattle.std.proofs.lemmas.List.{append-nil, map-append, take_more, take_all, length-take-le}
use Rattle.std.proofs.lemmas.List.Elements.{All-nil, All-push, All-append, recursion_from_All}
use Rattle.std.proofs.lemmas.Grind.{flat_map-append}
use Rattle.hv_row.specs.declared.value.Value.{Value}
use Rattle.hv_row.specs.declared.schema.Column.{Column}
use Rattle.hv_row.specs.Row.{RowFits, row_bytes}
use Rattle.hv_row.proofs.Reading.{spelling_same}
use Rattle.hv_page.specs.Layout.{page_of, written_version}
use Rattle.hv_page.specs.Heap.{heap_kind, IsHeapEntry, IsHeapPage}
use Rattle.hv_page.specs.Chunk.{IsPacked, IsStored, heap_pages_from, AreHeapPages}
use Rattle.hv_chunk.proofs.Packing.{flat}
use Rattle.hv_chunk.proofs.Growing.{pages_count}
use Rattle.hv_view.specs.View.{Viewed, IsRecorded}
use Rattle.hv_world.specs.RowsRead.{AddsRows, AddsPage, AddsPages, AreParts, HasEntries}

-- ---- rows that go behind others

-- the row of one entry more
adds_row : (schema : List Column) (entries : List (List ℕ)) (row : List Value) (entry : List ℕ) (before now after : List (List Value)) → AddsRows schema entries before now
    → RowFits schema row → row_bytes schema row ≡ entry → after ≡ now ++ row ∷ [] → AddsRows schema (entries ++ entry ∷ []) before after
adds_row schema entries row entry before now after adds fits spelt more = record {
  rows = adds.rows ++ row ∷ [];
  fit = All-push (RowFits schema) adds.rows row adds.fit fits;
  spelt = map-append (row_bytes schema) adds.rows (row ∷ []) ∙ ap (λ (l : List (List ℕ)). l ++ row_bytes schema row ∷ []) adds.spelt ∙ ap (λ (e : List ℕ). entries ++ e ∷ []) spelt;
  added = more ∙ ap (λ (l : List (List Value)). l ++ row ∷ []) adds.added ∙ append_assoc before adds.rows (row ∷ []);
}

-- the row of one slot more
pub adds_slot : (schema : List Column) (view : List (List ℕ)) (slot : ℕ) (row : List Value) (before now after : List (List Value)) → slot < length view → AddsRows schema (take slot view) before now
    → RowFits schema row → row_bytes schema row ≡ get_or view slot [] → after ≡ now ++ row ∷ [] → AddsRows schema (take (slot + 1) view) before after
adds_slot schema view slot row before now after lt adds fits spelt more =
    subst (λ (entries : List (List ℕ)). AddsRows schema entries before after) (sym (take_more view slot [] lt)) (adds_row schema (take slot view) row (get_or view slot []) before now after adds fits spelt more)

-- the entries of two lists, one after the other
adds_both : (schema : List Column) (first second : List (List ℕ)) (before between after : List (List Value)) → AddsRows schema first before between → AddsRows schema second between after → AddsRows schema (first ++ second) before after
adds_both schema first second before between after a b = record {
  rows = a.rows ++ b.rows;
  fit = All-append (RowFits schema) a.rows b.rows a.fit b.fit;
  spelt = map-append (row_bytes schema) a.rows b.rows ∙ ap (λ (l : List (List ℕ)). l ++ map (row_bytes schema) b.rows) a.spelt ∙ ap (λ (l : List (List ℕ)). first ++ l) b.spelt;
  added = b.added ∙ ap (λ (l : List (List Value)). l ++ b.rows) a.added ∙ append_assoc before a.rows b.rows;
}

-- the entries of one page more
adds_page : (schema : List Column) (parts : List (List (List ℕ))) (k : ℕ) (before now after : List (List Value)) → k < length parts → AddsRows schema (flat (take k parts)) before now
    → AddsRows schema (get_or parts k []) now after → AddsRows schema (flat (take (k + 1) parts)) before after
adds_page schema parts k before now after lt adds more =
    let grown : flat (take (k + 1) parts) ≡ flat (take k parts) ++ get_or parts k [] =
    ap flat (take_more parts k [] lt) ∙ flat_map-append (λ (part : List (List ℕ)). part) (take k parts) (get_or parts k [] ∷ []) ∙ ap (λ (l : List (List ℕ)). flat (take k parts) ++ l) (append-nil (get_or parts k [])) in
    subst (λ (entries : List (List ℕ)). AddsRows schema entries before after) (sym grown) (adds_both schema (flat (take k parts)) (get_or parts k []) before now after adds more)

-- the rows of what is seen of a page are those of its entries
pub adds_seen : (schema its : List Column) (pages : List (List ℕ)) (page : ℕ) (bytes seen : List ℕ) (view entries : List (List ℕ)) (before after : List (List Value)) → its ≡ schema → seen ≡ bytes → slice_get pages page ≡ Some bytes
    → HasEntries schema pages page entries → ((found : List (List ℕ)) → IsHeapPage written_version page its seen found → view ≡ found) → AddsRows its view before after → AddsRows schema entries before after
adds_seen schema its pages page bytes seen view entries before after of same stands has only adds =
    let both : Some has.bytes ≡ Some bytes = sym has.stands ∙ stands in
    let equal : has.bytes ≡ seen = cc in
    let whole : IsHeapPage written_version page its seen entries =
    subst (λ (s : List Column). IsHeapPage written_version page s seen entries) (sym of) (subst (λ (b : List ℕ). IsHeapPage written_version page schema b entries) equal has.whole) in
    subst (λ (es : List (List ℕ)). AddsRows schema es before after) (only entries whole) (subst (λ (s : List Column). AddsRows s view before after) of adds)

-- ---- rows by their bytes

-- rows that fit and have equal bytes are the same rows
same_rows : (schema : List Column) (found rows : List (List Value)) → AllByRecursion (RowFits schema) found → AllByRecursion (IsStored schema) rows → map (row_bytes schema) found ≡ map (row_bytes schema) rows → found ≡ rows
same_rows schema [] [] fit stored same = refl
same_rows schema [] (row ∷ rows) fit stored same = absurd cc
same_rows schema (row ∷ found) [] fit stored same = absurd cc
same_rows schema (row ∷ found) (other ∷ rows) fit stored same =
    let bytes : row_bytes schema row ≡ row_bytes schema other = cc in
    let later : map (row_bytes schema) found ≡ map (row_bytes schema) rows = cc in
    let first : row ≡ other = spelling_same schema row other fit.0 stored.0.fits bytes in
    let others : found ≡ rows = same_rows schema found rows fit.1 stored.1 later in
    cc

-- so where entries of all their bytes went behind others, they did
adds_all : (schema : List Column) (entries : List (List ℕ)) (rows : List (List Value)) (before after : List (List Value)) → AllByRecursion (IsStored schema) rows → entries ≡ map (row_bytes schema) rows → AddsRows schema entries before after → after ≡ before ++ rows
adds_all schema entries rows before after stored same adds =
    adds.added ∙ ap (λ (l : List (List Value)). before ++ l) (same_rows schema adds.rows rows (recursion_from_All (RowFits schema) adds.rows adds.fit) stored (adds.spelt ∙ same))

-- ---- pages of packed rows

-- rows that pages may hold are entries of them
entries_are_rows : (schema : List Column) (rows : List (List Value)) → AllByRecursion (IsStored schema) rows → AllByRecursion (IsHeapEntry schema) (map (row_bytes schema) rows)
entries_are_rows schema [] stored = tt
entries_are_rows schema (row ∷ rows) stored = (record { short = stored.0.short; row = record { row = row; fits = stored.0.fits; spelt = refl } }, entries_are_rows schema rows stored.1)

front_all : {X : Type 0} (P : X → Type 0) (xs ys : List X) → AllByRecursion P (xs ++ ys) → AllByRecursion P xs × AllByRecursion P ys
front_all P [] ys all = (tt, all)
front_all P (x ∷ xs) ys all = let rest = front_all P xs ys all.1 in ((all.0, rest.0), rest.1)

-- a page of these pages is the heap page of its part
record IsPart (version number : ℕ) (schema : List Column) (parts : List (List (List ℕ))) (k : ℕ) : Type 0 where
  bytes : List ℕ
  stands : slice_get (heap_pages_from version number parts) k ≡ Some bytes
  whole : IsHeapPage version (number + k) schema bytes (get_or parts k [])

part_of : (version number : ℕ) (schema : List Column) (parts : List (List (List ℕ))) (k : ℕ) → IsPacked parts → AllByRecursion (IsHeapEntry schema) (flat parts) → k < length parts → IsPart version number schema parts k
unfolding IsPacked heap_pages_from
part_of version number schema [] k packed rows lt = absurd (omega arith)
part_of version number schema (part ∷ parts) zero packed rows lt = record {
  bytes = page_of heap_kind version number part;
  stands = refl;
  whole = record { some = packed.0; fit = packed.1; each = (front_all (IsHeapEntry schema) part (flat parts) rows).0; whole = ap (λ (n : ℕ). page_of heap_kind version n part) (sym (add-zero number)) };
}
part_of version number schema (part ∷ parts) (suc k) packed rows lt =
    let later = part_of version (suc number) schema parts k packed.3 (front_all (IsHeapEntry schema) part (flat parts) rows).1 (omega arith) in
    let moved : suc number + k ≡ number + suc k = omega arith in
    record {
      bytes = later.bytes;
      stands = later.stands;
      whole = subst (λ (n : ℕ). IsHeapPage version n schema later.bytes (get_or parts k [])) moved later.whole;
    }

-- there are as many parts as pages
part_count : (schema : List Column) (pages : List (List ℕ)) (rows : List (List Value)) (heap : AreHeapPages written_version schema pages rows) → length pages ≡ length heap.parts
part_count schema pages rows heap = ap length heap.numbered ∙ pages_count written_version 0 heap.parts

the_number : (n : ℕ) → 0 + n ≡ n
the_number n = omega arith

-- the entries of a page of rows
pub page_entries : (schema : List Column) (pages : List (List ℕ)) (rows : List (List Value)) (heap : AreHeapPages written_version schema pages rows) (page : ℕ) → page < length pages → HasEntries schema pages page (get_or heap.parts page [])
page_entries schema pages rows heap page lt =
    let each : AllByRecursion (IsHeapEntry schema) (flat heap.parts) = subst (λ (entries : List (List ℕ)). AllByRecursion (IsHeapEntry schema) entries) (sym heap.slots) (entries_are_rows schema rows heap.stored) in
    let count = part_count schema pages rows heap in
    let part = part_of written_version 0 schema heap.parts page heap.packed each (omega arith) in
    record {
      bytes = part.bytes;
      stands = ap (λ (l : List (List ℕ)). slice_get l page) heap.numbered ∙ part.stands;
      whole = subst (λ (n : ℕ). IsHeapPage written_version n schema part.bytes (get_or heap.parts page [])) (the_number page) part.whole;
    }

-- those of the pages of rows
parts_are : (schema : List Column) (pages : List (List ℕ)) (rows : List (List Value)) (heap : AreHeapPages written_version schema pages rows) → AreParts schema pages (length pages) heap.parts
parts_are schema pages rows heap = record { counted = sym (part_count schema pages rows heap); each = page_entries schema pages rows heap }

-- ---- the first pages of a chunk

pub adds_pages_none : {File : Type 0} (chunk : Viewed File) (before : List (List Value)) → AddsPages chunk 0 before before
adds_pages_none chunk before pages parts heap are = record { rows = []; fit = All-nil (RowFits chunk.schema); spelt = refl; added = sym (append-nil before) }

pub adds_pages_more : {File : Type 0} (chunk : Viewed File) (page : ℕ) (before now after : List (List Value)) → page < chunk.heap_pages → AddsPages chunk page before now → AddsPage chunk page now after
    → AddsPages chunk (page + 1) before after
adds_pages_more chunk page before now after lt adds more pages parts heap are =
    adds_page chunk.schema parts page before now after (omega (arith, are.counted)) (adds pages parts heap are) (more pages heap (get_or parts page []) (are.each page lt))

-- so all rows did
pub adds_pages_all : {File : Type 0} (chunk : Viewed File) (page : ℕ) (before now : List (List Value)) → IsRecorded chunk.schema chunk.rows chunk → chunk.heap_pages ≤ page
    → AddsPages chunk page before now → now ≡ before ++ chunk.rows
adds_pages_all chunk page before now recorded end adds =
    let pages = take chunk.heap_pages recorded.written in
    let heap : AreHeapPages written_version chunk.schema pages chunk.rows = subst (λ (v : ℕ). AreHeapPages v chunk.schema pages chunk.rows) recorded.version_is recorded.is_chunk.heap in
    let count : length pages ≡ chunk.heap_pages = length-take-le chunk.heap_pages recorded.written recorded.is_chunk.within in
    let parts : AreParts chunk.schema pages chunk.heap_pages heap.parts = subst (λ (n : ℕ). AreParts chunk.schema pages n heap.parts) count (parts_are chunk.schema pages chunk.rows heap) in
    let whole : take page heap.parts ≡ heap.parts = take_all page heap.parts (omega (arith, parts.counted)) in
    adds_all chunk.schema (flat heap.parts) chunk.rows before now heap.stored heap.slots
    (subst (λ (ps : List (List (List ℕ))). AddsRows chunk.schema (flat ps) before now) whole (adds pages heap.parts recorded.is_chunk.heap parts))
