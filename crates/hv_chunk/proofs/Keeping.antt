-- What a builder keeps, from its first row to its chunk.
use Rattle.std.proofs.Common.{◌≡◌, ℕ, ◌+◌, ◌<◌, ◌≤◌, Bool, true, false, Option, Some, inl, inr, List, [], ◌∷◌, ◌++◌, length, take, map, refl, sym, ap, subst, ◌∙◌, arith, length-append, append-nil}
use Rattle.std.specs.Prelude.{Result, Ok, Err, OnOk}
use Rattle.std.specs.List.{AllByRecursion}
use Rattle.std.proofs.lemmas.List.{map-append, length-map, take_all}
use Rattle.sha2.specs.Sha256.{sha256}
use Rattle.hv_row.specs.declared.value.Value.{Value}
use Rattle.hv_row.specs.declared.schema.Column.{Column}
use Rattle.hv_row.specs.Row.{row_bytes, RowFits}
use Rattle.hv_row.specs.Spelling.{IsSpelling}
use Rattle.hv_row.specs.Packed.{row_spelled}
use Rattle.hv_row.proofs.Spelled.{spelling_fits, spelling_bytes}
use Rattle.hv_page.specs.Layout.{Fit, page_of, written_version}
use Rattle.hv_page.specs.Heap.{heap_kind}
use Rattle.hv_page.specs.Chunk.{IsPacked, IsStored, heap_pages_from, AreHeapPages}
use Rattle.hv_page.specs.Fault.{entries_of}
use Rattle.hv_page.proofs.Reading.{page_length, made_entries}
use Rattle.hv_heap.specs.declared.writer.Placed.{Placed}
use Rattle.hv_heap.specs.Writer.{Packing, page_now, Stays, Begins, IsPlaced}
use Rattle.hv_view.specs.View.{IsBuilt}
use Rattle.hv_chunk.specs.Building.{Building, rows_on}
use Rattle.hv_chunk.specs.Keeping.{parts_with, IsKept, IsWhole}
use Rattle.hv_chunk.proofs.Packing.{flat, pages_once, pages_within}
use Rattle.hv_chunk.proofs.Standing.{rows_whole, rows_more, rows_turned}
use Rattle.hv_chunk.proofs.Growing.{stays_packed, begins_packed, flat_stays, flat_begins, pages_more, pages_count}

-- nothing yet
pub kept_new : (writer : Packing) (schema : List Column) → writer.schema ≡ schema → writer.added ≡ 0 → writer.number ≡ 0 → writer.entries ≡ [] → IsKept writer (record { schema = schema; rows = []; pages = [] }) [] 0
unfolding IsPacked heap_pages_from
kept_new writer schema same added number none = record {
  schema_is = same;
  added = added;
  counted = refl;
  few = omega arith;
  stored = tt;
  parts = [];
  begun = λ _. refl;
  packed = subst (λ (es : List (List ℕ)). IsPacked (parts_with [] es)) (sym none) tt;
  slots = ap (λ (es : List (List ℕ)). flat (parts_with [] es)) none;
  number = sym number;
  finished = refl;
  digested = refl;
}

-- what holds of each element and of one behind them
pub all_more : {X : Type 0} (P : X → Type 0) (xs : List X) (y : X) → AllByRecursion P xs → P y → AllByRecursion P (xs ++ y ∷ [])
all_more P [] y all one = (one, tt)
all_more P (x ∷ xs) y all one = (all.0, all_more P xs y all.1 one)

-- the bytes of the rows with one more
bytes_more : (schema : List Column) (rows : List (List Value)) (row : List Value) (slots after : List (List ℕ)) → slots ≡ map (row_bytes schema) rows → after ≡ slots ++ row_bytes schema row ∷ [] → after ≡ map (row_bytes schema) (rows ++ row ∷ [])
bytes_more schema rows row slots after same grown =
    grown ∙ ap (λ (front : List (List ℕ)). front ++ row_bytes schema row ∷ []) same ∙ sym (map-append (row_bytes schema) rows (row ∷ []))

-- the builder with one row more
abbrev pub pushed : Building → List Value → List (List ℕ) → Building
pushed building row pages = record { schema = building.schema; rows = building.rows ++ row ∷ []; pages = pages }

pages_behind : (pages : List (List ℕ)) (parts : List (List (List ℕ))) (entries : List (List ℕ)) (number : ℕ) → pages ≡ heap_pages_from written_version 0 parts → length parts ≡ number
    → pages ++ page_of heap_kind written_version number entries ∷ [] ≡ heap_pages_from written_version 0 (parts ++ entries ∷ [])
pages_behind pages parts entries number same count =
    let at : number ≡ 0 + length parts = omega arith in
    ap (λ (front : List (List ℕ)). front ++ page_of heap_kind written_version number entries ∷ []) same
    ∙ ap (λ (n : ℕ). heap_pages_from written_version 0 parts ++ page_of heap_kind written_version n entries ∷ []) at
    ∙ sym (pages_more written_version 0 parts entries)

pub kept_stays : (before after : Packing) (building : Building) (digests : List (List ℕ)) (row_count : ℕ) (row : List Value) (placed : Placed) → IsKept before building digests row_count → row_count < 1000000 → IsStored building.schema row
    → Stays before after (row_bytes before.schema row) placed → IsKept after (pushed building row building.pages) digests (row_count + 1)
kept_stays before after building digests row_count row placed kept few stored stays =
    let bytes : row_bytes before.schema row ≡ row_bytes building.schema row = ap (λ (schema : List Column). row_bytes schema row) kept.schema_is in
    subst (λ (w : Packing). IsKept w (pushed building row building.pages) digests (row_count + 1)) (sym stays.is) (record {
      schema_is = kept.schema_is;
      added = omega (arith, kept.added, length-append building.rows (row ∷ []));
      counted = omega (arith, kept.counted, length-append building.rows (row ∷ []));
      few = omega arith;
      stored = all_more (IsStored building.schema) building.rows row kept.stored stored;
      parts = kept.parts;
      begun = λ none. absurd (omega (arith, ap length none, length-append before.entries (row_bytes before.schema row ∷ [])));
      packed = stays_packed kept.parts before.entries (row_bytes before.schema row) kept.begun kept.packed stays.fits;
      slots = bytes_more building.schema building.rows row _ _ kept.slots (flat_stays kept.parts before.entries (row_bytes before.schema row) ∙ ap (λ (entry : List ℕ). flat (parts_with kept.parts before.entries) ++ entry ∷ []) bytes);
      number = kept.number;
      finished = kept.finished;
      digested = kept.digested;
    })

pub kept_begins : (before after : Packing) (building : Building) (digests : List (List ℕ)) (row_count : ℕ) (row : List Value) (placed : Placed) → IsKept before building digests row_count → row_count < 1000000 → IsStored building.schema row
    → Begins before after (row_bytes before.schema row) placed → IsKept after (pushed building row (building.pages ++ page_now before ∷ [])) (digests ++ sha256 (page_now before) ∷ []) (row_count + 1)
kept_begins before after building digests row_count row placed kept few stored begins =
    let bytes : row_bytes before.schema row ≡ row_bytes building.schema row = ap (λ (schema : List Column). row_bytes schema row) kept.schema_is in
    let short : length (row_bytes before.schema row) ≤ 2000 = omega (arith, stored.short, ap length bytes) in
    subst (λ (w : Packing). IsKept w (pushed building row (building.pages ++ page_now before ∷ [])) (digests ++ sha256 (page_now before) ∷ []) (row_count + 1)) (sym begins.is) (record {
      schema_is = kept.schema_is;
      added = omega (arith, kept.added, length-append building.rows (row ∷ []));
      counted = omega (arith, kept.counted, length-append building.rows (row ∷ []));
      few = omega arith;
      stored = all_more (IsStored building.schema) building.rows row kept.stored stored;
      parts = kept.parts ++ before.entries ∷ [];
      begun = λ none. cc;
      packed = begins_packed kept.parts before.entries (row_bytes before.schema row) short kept.packed begins.full_page;
      slots = bytes_more building.schema building.rows row _ _ kept.slots (flat_begins kept.parts before.entries (row_bytes before.schema row) ∙ ap (λ (entry : List ℕ). flat (parts_with kept.parts before.entries) ++ entry ∷ []) bytes);
      number = omega (arith, kept.number, length-append kept.parts (before.entries ∷ []));
      finished = pages_behind building.pages kept.parts before.entries before.number kept.finished kept.number;
      digested = ap (λ (front : List (List ℕ)). front ++ sha256 (page_now before) ∷ []) kept.digested ∙ sym (map-append sha256 building.pages (page_now before ∷ []));
    })

last_fits : (parts : List (List (List ℕ))) (entries : List (List ℕ)) → IsPacked (parts ++ entries ∷ []) → Fit entries
unfolding IsPacked
last_fits [] entries packed = packed.1
last_fits (p ∷ parts) entries packed = last_fits parts entries packed.3

page_fits : (parts : List (List (List ℕ))) (entries : List (List ℕ)) → IsPacked (parts_with parts entries) → Fit entries
page_fits parts [] packed = omega arith
page_fits parts (x ∷ entries) packed = last_fits parts (x ∷ entries) packed

-- the page that is being made is one
pub now_length : (writer : Packing) (building : Building) (digests : List (List ℕ)) (row_count : ℕ) → IsKept writer building digests row_count → length (page_now writer) ≡ 4096
now_length writer building digests row_count kept = page_length heap_kind written_version writer.number writer.entries (page_fits kept.parts writer.entries kept.packed)

parts_within : (parts : List (List (List ℕ))) (entries : List (List ℕ)) → length parts ≤ length (parts_with parts entries)
parts_within parts [] = omega arith
parts_within parts (x ∷ entries) = omega (arith, length-append parts ((x ∷ entries) ∷ []))

-- there are no more digests than rows
pub digests_within : (writer : Packing) (building : Building) (digests : List (List ℕ)) (row_count : ℕ) → IsKept writer building digests row_count → length digests ≤ row_count
digests_within writer building digests row_count kept =
    omega (arith, kept.counted, ap length kept.digested, length-map building.pages sha256, ap length kept.finished, pages_count written_version 0 kept.parts, parts_within kept.parts writer.entries, pages_within (parts_with kept.parts writer.entries) kept.packed, ap length kept.slots, length-map building.rows (row_bytes building.schema))

-- there are as many digests as pages that were written
pub digests_count : (writer : Packing) (building : Building) (digests : List (List ℕ)) (row_count : ℕ) → IsKept writer building digests row_count → length digests ≡ length building.pages
digests_count writer building digests row_count kept = ap length kept.digested ∙ length-map building.pages sha256

some_whole : (parts : List (List (List ℕ))) (entries : List (List ℕ)) → (entries ≡ [] → parts ≡ []) → 0 < length (flat (parts_with parts entries)) → parts_with parts entries ≡ parts ++ entries ∷ []
some_whole [] [] begun some = absurd (omega arith)
some_whole (p ∷ parts) [] begun some = let none : p ∷ parts ≡ [] = begun refl in cc
some_whole parts (x ∷ entries) begun some = refl

none_whole : (parts : List (List (List ℕ))) (entries : List (List ℕ)) → length (parts_with parts entries) ≤ 0 → parts_with parts entries ≡ parts
none_whole parts [] few = refl
none_whole parts (x ∷ entries) few = absurd (omega (arith, length-append parts ((x ∷ entries) ∷ [])))

heap_of : (schema : List Column) (rows : List (List Value)) (pages : List (List ℕ)) (parts others : List (List (List ℕ))) → AllByRecursion (IsStored schema) rows → IsPacked others → flat others ≡ map (row_bytes schema) rows → others ≡ parts → pages ≡ heap_pages_from written_version 0 parts → AreHeapPages written_version schema pages rows
heap_of schema rows pages parts others stored packed slots same numbered = record {
  stored = stored;
  parts = parts;
  packed = subst IsPacked same packed;
  slots = ap flat (sym same) ∙ slots;
  numbered = numbered;
}

-- with its last page, a builder has the heap pages of its rows
pub heap_with : (writer : Packing) (building : Building) (digests : List (List ℕ)) (row_count : ℕ) → IsKept writer building digests row_count → 0 < row_count → AreHeapPages written_version building.schema (building.pages ++ page_now writer ∷ []) building.rows
heap_with writer building digests row_count kept some =
    let slots : 0 < length (flat (parts_with kept.parts writer.entries)) = omega (arith, kept.counted, ap length kept.slots, length-map building.rows (row_bytes building.schema)) in
    heap_of building.schema building.rows _ (kept.parts ++ writer.entries ∷ []) (parts_with kept.parts writer.entries) kept.stored kept.packed kept.slots (some_whole kept.parts writer.entries kept.begun slots)
    (pages_behind building.pages kept.parts writer.entries writer.number kept.finished kept.number)

-- without a row it has no page
pub heap_without : (writer : Packing) (building : Building) (digests : List (List ℕ)) (row_count : ℕ) → IsKept writer building digests row_count → row_count ≤ 0 → AreHeapPages written_version building.schema building.pages building.rows
heap_without writer building digests row_count kept none =
    let few : length (parts_with kept.parts writer.entries) ≤ 0 = omega (arith, kept.counted, ap length kept.slots, length-map building.rows (row_bytes building.schema), pages_within (parts_with kept.parts writer.entries) kept.packed) in
    heap_of building.schema building.rows _ kept.parts (parts_with kept.parts writer.entries) kept.stored kept.packed kept.slots (none_whole kept.parts writer.entries few) kept.finished

-- a row begins a page where one is finished
pub begins_of : {before after : Packing} (row : List Value) (placed : Placed) → IsPlaced before after row placed → placed.full ≡ true → Begins before after (row_bytes before.schema row) placed
begins_of row placed (inl stays) full = let not_full : placed.full ≡ false = stays.full in cc
begins_of row placed (inr begins) full = begins

pub stays_of : {before after : Packing} (row : List Value) (placed : Placed) → IsPlaced before after row placed → placed.full ≡ false → Stays before after (row_bytes before.schema row) placed
stays_of row placed (inl stays) full = stays
stays_of row placed (inr begins) full = let is_full : placed.full ≡ true = begins.full in cc

-- a finished page is one
pub done_length : {before after : Packing} {building : Building} {digests : List (List ℕ)} {row_count : ℕ} (row : List Value) (placed : Placed) (page : List ℕ) → IsKept before building digests row_count → IsPlaced before after row placed → placed.full ≡ true
    → page ≡ after.done → length page ≡ 4096
done_length {before} {after} {building} {digests} {row_count} row placed page kept is full same =
    ap length (same ∙ ap (λ (w : Packing). w.done) (begins_of row placed is full).is) ∙ now_length before building digests row_count kept

pub kept_as : (writer : Packing) (schema : List Column) (rows more_rows : List (List Value)) (pages more_pages digests more_digests : List (List ℕ)) (row_count : ℕ) → more_rows ≡ rows → more_pages ≡ pages → more_digests ≡ digests
    → IsKept writer (record { schema = schema; rows = rows; pages = pages }) digests row_count → IsKept writer (record { schema = schema; rows = more_rows; pages = more_pages }) more_digests row_count
kept_as writer schema rows more_rows pages more_pages digests more_digests row_count same_rows same_pages same_digests kept =
    subst (λ (d : List (List ℕ)). IsKept writer (record { schema = schema; rows = more_rows; pages = more_pages }) d row_count) (sym same_digests)
    (subst (λ (p : List (List ℕ)). IsKept writer (record { schema = schema; rows = more_rows; pages = p }) digests row_count) (sym same_pages)
    (subst (λ (r : List (List Value)). IsKept writer (record { schema = schema; rows = r; pages = pages }) digests row_count) (sym same_rows) kept))

-- a row that was placed on the page
pub kept_here : (before after : Packing) (schema : List Column) (rows more_rows : List (List Value)) (pages digests more_digests : List (List ℕ)) (row_count : ℕ) (row : List Value) (placed : Placed) → IsKept before (record { schema = schema; rows = rows; pages = pages }) digests row_count → row_count < 1000000 → IsStored schema row
    → IsPlaced before after row placed → placed.full ≡ false → more_rows ≡ rows ++ row ∷ [] → more_digests ≡ digests
    → IsKept after (record { schema = schema; rows = more_rows; pages = pages }) more_digests (row_count + 1)
kept_here before after schema rows more_rows pages digests more_digests row_count row placed kept few stored is full same_rows same_digests =
    kept_as after schema (rows ++ row ∷ []) more_rows pages pages digests more_digests (row_count + 1) same_rows refl same_digests
    (kept_stays before after (record { schema = schema; rows = rows; pages = pages }) digests row_count row placed kept few stored (stays_of row placed is full))

-- a row that began the next page
pub kept_next : (before after : Packing) (schema : List Column) (rows more_rows : List (List Value)) (pages more_pages digests more_digests : List (List ℕ)) (row_count : ℕ) (row : List Value) (placed : Placed) (page : List ℕ) → IsKept before (record { schema = schema; rows = rows; pages = pages }) digests row_count → row_count < 1000000 → IsStored schema row
    → IsPlaced before after row placed → placed.full ≡ true → page ≡ after.done → more_rows ≡ rows ++ row ∷ [] → more_pages ≡ pages ++ page ∷ [] → more_digests ≡ digests ++ sha256 page ∷ []
    → IsKept after (record { schema = schema; rows = more_rows; pages = more_pages }) more_digests (row_count + 1)
kept_next before after schema rows more_rows pages more_pages digests more_digests row_count row placed page kept few stored is full finished same_rows same_pages same_digests =
    let begins : Begins before after (row_bytes before.schema row) placed = begins_of row placed is full in
    let same : page ≡ page_now before = finished ∙ ap (λ (w : Packing). w.done) begins.is in
    kept_as after schema (rows ++ row ∷ []) more_rows (pages ++ page_now before ∷ []) more_pages (digests ++ sha256 (page_now before) ∷ []) more_digests (row_count + 1) same_rows
    (same_pages ∙ ap (λ (p : List ℕ). pages ++ p ∷ []) same) (same_digests ∙ ap (λ (p : List ℕ). digests ++ sha256 p ∷ []) same)
    (kept_begins before after (record { schema = schema; rows = rows; pages = pages }) digests row_count row placed kept few stored begins)

-- the rows of the builder with one more, which was placed on the page
pub rows_here : (before after : Packing) (schema : List Column) (pages : List (List ℕ)) (row : List Value) (placed : Placed) → before.schema ≡ schema → RowFits schema row → IsPlaced before after row placed → placed.full ≡ false
    → rows_on schema pages after.entries ≡ rows_on schema pages before.entries ++ row ∷ []
rows_here before after schema pages row placed own fits is full =
    let stays : Stays before after (row_bytes before.schema row) placed = stays_of row placed is full in
    let entries : after.entries ≡ before.entries ++ row_bytes schema row ∷ [] = ap (λ (w : Packing). w.entries) stays.is ∙ ap (λ (cs : List Column). before.entries ++ row_bytes cs row ∷ []) own in
    ap (rows_on schema pages) entries ∙ rows_more schema pages before.entries row fits

-- where it began the next page, the finished one has the entries of the page that was being made
finished_entries : (before after : Packing) (schema : List Column) (pages digests : List (List ℕ)) (rows : List (List Value)) (row_count : ℕ) (row : List Value) (placed : Placed) (page : List ℕ) → IsKept before (record { schema = schema; rows = rows; pages = pages }) digests row_count → IsPlaced before after row placed → placed.full ≡ true
    → page ≡ after.done → entries_of page ≡ before.entries
finished_entries before after schema pages digests rows row_count row placed page kept is full finished =
    let begins : Begins before after (row_bytes before.schema row) placed = begins_of row placed is full in
    let same : page ≡ page_now before = finished ∙ ap (λ (w : Packing). w.done) begins.is in
    ap entries_of same ∙ made_entries heap_kind written_version before.number before.entries (page_fits kept.parts before.entries kept.packed)

-- so the rows before it all stand on pages
pub rows_finished : (before after : Packing) (schema : List Column) (pages more_pages digests : List (List ℕ)) (rows : List (List Value)) (row_count : ℕ) (row : List Value) (placed : Placed) (page : List ℕ) → IsKept before (record { schema = schema; rows = rows; pages = pages }) digests row_count → IsPlaced before after row placed → placed.full ≡ true
    → page ≡ after.done → more_pages ≡ pages ++ page ∷ [] → rows_on schema more_pages [] ≡ rows_on schema pages before.entries
rows_finished before after schema pages more_pages digests rows row_count row placed page kept is full finished same_pages =
    ap (λ (p : List (List ℕ)). rows_on schema p []) same_pages
    ∙ rows_turned schema pages page before.entries [] (finished_entries before after schema pages digests rows row_count row placed page kept is full finished)
    ∙ ap (rows_on schema pages) (append-nil before.entries)

-- and it stands behind them
pub rows_next : (before after : Packing) (schema : List Column) (pages more_pages digests : List (List ℕ)) (rows : List (List Value)) (row_count : ℕ) (row : List Value) (placed : Placed) (page : List ℕ) → IsKept before (record { schema = schema; rows = rows; pages = pages }) digests row_count → RowFits schema row → IsPlaced before after row placed → placed.full ≡ true
    → page ≡ after.done → more_pages ≡ pages ++ page ∷ [] → rows_on schema more_pages after.entries ≡ rows_on schema pages before.entries ++ row ∷ []
rows_next before after schema pages more_pages digests rows row_count row placed page kept fits is full finished same_pages =
    let begins : Begins before after (row_bytes before.schema row) placed = begins_of row placed is full in
    let entries : after.entries ≡ row_bytes schema row ∷ [] = ap (λ (w : Packing). w.entries) begins.is ∙ ap (λ (cs : List Column). row_bytes cs row ∷ []) kept.schema_is in
    let of_page = finished_entries before after schema pages digests rows row_count row placed page kept is full finished in
    ap (λ (p : List (List ℕ)). rows_on schema p after.entries) same_pages ∙ ap (rows_on schema (pages ++ page ∷ [])) entries
    ∙ rows_turned schema pages page before.entries (row_bytes schema row ∷ []) of_page
    ∙ rows_more schema pages before.entries row fits

-- the row of a spelling of at most 2,000 bytes is one that a page may hold
pub stored_of : (schema old_schema of_writer : List Column) (entry : List ℕ) → IsSpelling old_schema entry → length entry ≤ 2000 → schema ≡ old_schema → of_writer ≡ schema → IsStored schema (row_spelled of_writer entry)
stored_of schema old_schema of_writer entry spelt short same same_writer =
    let spelling : IsSpelling schema entry = subst (λ (s : List Column). IsSpelling s entry) (sym same) spelt in
    subst (λ (s : List Column). IsStored schema (row_spelled s entry)) (sym same_writer) (record {
      fits = spelling_fits schema entry spelling;
      short = omega (arith, short, ap length (spelling_bytes schema entry spelling));
    })

-- what holds anyway holds where all went well
pub anyway : {T E P : Type 0} (r : Result T E) → P → OnOk r P
anyway (Ok _) p = p
anyway (Err _) p = tt

pub so_too : {T E P Q : Type 0} (r : Result T E) → OnOk r P → (P → Q) → OnOk r Q
so_too (Ok _) p then = then p
so_too (Err _) p then = tt

-- the last page and its digest behind the others
pub whole_with : (writer : Packing) (building : Building) (digests more_digests : List (List ℕ)) (row_count : ℕ) (page : List ℕ) (open_file : Option (List (List ℕ))) → IsKept writer building digests row_count → 0 < row_count → page ≡ page_now writer
    → more_digests ≡ digests ++ sha256 page ∷ [] → open_file ≡ Some (building.pages ++ page ∷ []) → IsWhole building more_digests open_file
whole_with writer building digests more_digests row_count page open_file kept some same same_digests open_is = record {
  written = building.pages ++ page ∷ [];
  heap = subst (λ (p : List ℕ). AreHeapPages written_version building.schema (building.pages ++ p ∷ []) building.rows) (sym same) (heap_with writer building digests row_count kept some);
  digested = same_digests ∙ ap (λ (front : List (List ℕ)). front ++ sha256 page ∷ []) kept.digested ∙ sym (map-append sha256 building.pages (page ∷ []));
  open_is = open_is;
  few = omega (arith, kept.few, digests_within writer building digests row_count kept, ap length same_digests, length-append digests (sha256 page ∷ []));
}

-- without a row there is no page more
pub whole_without : (writer : Packing) (building : Building) (digests : List (List ℕ)) (row_count : ℕ) (open_file : Option (List (List ℕ))) → IsKept writer building digests row_count → row_count ≤ 0 → open_file ≡ Some building.pages → IsWhole building digests open_file
whole_without writer building digests row_count open_file kept none open_is = record {
  written = building.pages;
  heap = heap_without writer building digests row_count kept none;
  digested = kept.digested;
  open_is = open_is;
  few = omega (arith, kept.few, digests_within writer building digests row_count kept);
}

-- its rows stand on the pages of the file
pub rows_standing : (schema : List Column) (rows : List (List Value)) (building_pages digests pages : List (List ℕ)) {open_file : Option (List (List ℕ))} → IsWhole (record { schema = schema; rows = rows; pages = building_pages }) digests open_file → open_file ≡ Some pages → rows_on schema pages [] ≡ rows
rows_standing schema rows building_pages digests pages {open_file} whole noted =
    let other : open_file ≡ Some whole.written = whole.open_is in
    let same : pages ≡ whole.written = cc in
    ap (λ (p : List (List ℕ)). rows_on schema p []) same ∙ rows_whole written_version schema whole.written rows whole.heap

-- the chunk of a builder whose pages are all written
pub built_whole : {File : Type 0} (tells : Bool) (pages : File → List (List ℕ)) (building : Building) (digests : List (List ℕ)) (heap_pages row_count : ℕ) (file : File) (open_file : Option (List (List ℕ)))
    → IsWhole building digests open_file → row_count ≡ length building.rows → heap_pages ≡ length digests → (tells ≡ true → open_file ≡ Some (pages file))
    → IsBuilt tells pages building.schema building.rows (record { version = written_version; rows = building.rows; schema = building.schema; digests = digests; heap_pages = heap_pages; row_count = row_count; file = file })
built_whole {File} tells pages building digests heap_pages row_count file open_file whole counted count told =
    let all : heap_pages ≡ length whole.written = count ∙ ap length whole.digested ∙ length-map whole.written sha256 in
    let front : take heap_pages whole.written ≡ whole.written = take_all heap_pages whole.written (omega (arith, all)) in
    let heap : AreHeapPages written_version building.schema (take heap_pages whole.written) building.rows = subst (λ (are : List (List ℕ)). AreHeapPages written_version building.schema are building.rows) (sym front) whole.heap in
    record {
      recorded = record {
        schema_is = refl;
        rows_are = refl;
        version_is = refl;
        written = whole.written;
        is_chunk = record { within = omega (arith, all); heap = heap; all = sym all; counted = counted; digested = whole.digested };
        only = λ others those. pages_once written_version building.schema others _ building.rows those heap;
      };
      file = λ t. let one : open_file ≡ Some (pages file) = told t in let other : open_file ≡ Some whole.written = whole.open_is in cc;
    }
