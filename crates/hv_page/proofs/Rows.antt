-- Entries that are rows: a row has a byte at least, a fault stands in its row or at its end, and a heap page is made of rows exactly where it has no fault.
use Rattle.std.proofs.Common.{◌≡◌, ℕ, zero, suc, ◌+◌, ◌-◌, ◌^◌, ◌<◌, ◌≤◌, ltb, cond, List, [], ◌∷◌, length, get_or, take, drop, Option, Some, None, Result, Ok, Err, refl, sym, ap, ◌∙◌, arith, length-drop}
use Rattle.std.specs.Prelude.{nat_le, IfOk, IfErr, MatchResult}
use Rattle.std.specs.List.{AllByRecursion}
use Rattle.std.specs.Str.{is_utf8}
use Rattle.std.proofs.lemmas.Bool.{le-leb, leb-true, ltb-false}
use Rattle.std.proofs.lemmas.Option.{same_Some, cond_some}
use Rattle.hv_row.specs.declared.value.Value.{Value}
use Rattle.hv_row.specs.declared.value.Value.TheVariants.{Int, Text}
use Rattle.hv_row.specs.declared.value.ColType.{ColType}
use Rattle.hv_row.specs.declared.value.ColType.TheVariants as kind
use Rattle.hv_row.specs.declared.schema.Column.{Column}
use Rattle.hv_row.specs.Row.{RowFits, row_bytes}
use Rattle.hv_row.specs.Spelling.{IsSpelling, value_length, behind, fault_from, row_fault}
use Rattle.hv_row.proofs.Reading.{IsBytes, IsBytes-drop, IsBytes-take, guarded, spelling_faultless, row_found}
use Rattle.hv_page.specs.declared.layout.Form.{Form}
use Rattle.hv_page.specs.Heap.{heap_kind, IsHeapEntry, IsHeapPage}
use Rattle.hv_page.specs.Fault.{unless, count_of, entry_from, entry_to, entry_at, heap_entry_fault, heap_fault, entries_left, entries_of, Tells}
use Rattle.hv_page.proofs.Points.{orelse_parts, orelse_next, unless_holds, unless_none}
use Rattle.hv_page.proofs.Reading.{made_entries}
use Rattle.hv_page.proofs.Faultless.{made_faultless}
use Rattle.hv_page.proofs.Whole.{made}

-- ---- where a fault stands

value_within : (k : ColType) (bytes : List ℕ) (n : ℕ) → value_length k bytes ≡ Some n → n ≤ length bytes
unfolding value_length
value_within kind.Int bytes n e =
    let long = guarded (ltb (length bytes) 8) (Some 8) n e in
    omega (arith, ltb-false (length bytes) 8 long.0, same_Some 8 n long.1)
value_within kind.Text [] n e = absurd cc
value_within kind.Text (m ∷ rest) n e =
    let long = guarded (ltb (length rest) m) (cond (is_utf8 (take m rest)) (Some (suc m)) None) n e in
    omega (arith, ltb-false (length rest) m long.0, (cond_some (is_utf8 (take m rest)) (suc m) n long.1).1)

behind_within : (at : ℕ) (o : Option ℕ) (next : ℕ → Option ℕ) (byte long : ℕ) → behind at o next ≡ Some byte → at ≤ long → ((n : ℕ) → o ≡ Some n → next n ≡ Some byte → byte ≤ long) → byte ≤ long
behind_within at None next byte long e le then = omega (arith, same_Some at byte e)
behind_within at (Some n) next byte long e le then = then n refl e

pub fault_within : (at : ℕ) (cs : List Column) (bytes : List ℕ) (byte : ℕ) → fault_from at cs bytes ≡ Some byte → byte ≤ at + length bytes
unfolding fault_from
fault_within at [] [] byte e = absurd cc
fault_within at [] (_ ∷ rest) byte e = omega (arith, same_Some at byte e)
fault_within at (c ∷ cs) bytes byte e =
    behind_within at (value_length c.kind bytes) (λ n. fault_from (at + n) cs (drop n bytes)) byte (at + length bytes) e (omega arith)
    (λ n taken later. omega (arith, value_within c.kind bytes n taken, fault_within (at + n) cs (drop n bytes) byte later, length-drop n bytes))

-- ---- rows

row_some : (c : Column) (cs : List Column) (row : List Value) → RowFits (c ∷ cs) row → 0 < length (row_bytes (c ∷ cs) row)
row_some c cs [] fits = absurd fits
row_some c cs (Int x ∷ row) fits = omega arith
row_some c cs (Text bytes ∷ row) fits = omega arith

entry_some : (schema : List Column) (entry : List ℕ) → 0 < length schema → IsSpelling schema entry → 0 < length entry
entry_some [] entry some is = absurd (omega arith)
entry_some (c ∷ cs) entry some is = rw is.spelt (row_some c cs is.row is.fits)

entry_passes : (schema : List Column) (entry : List ℕ) → IsHeapEntry schema entry → heap_entry_fault schema entry ≡ None
entry_passes schema entry is =
    orelse_next (unless (nat_le (length entry) 2000) 0) (row_fault schema entry) (unless_holds (nat_le (length entry) 2000) 0 (le-leb (length entry) 2000 is.short))
    ∙ spelling_faultless 0 schema entry is.row

entry_is : (schema : List Column) (entry : List ℕ) → IsBytes entry → heap_entry_fault schema entry ≡ None → IsHeapEntry schema entry
entry_is schema entry fits none =
    let parts = orelse_parts (unless (nat_le (length entry) 2000) 0) (row_fault schema entry) none in
    record {
      short = leb-true (length entry) 2000 (unless_none (nat_le (length entry) 2000) 0 parts.0);
      row = row_found 0 schema entry fits parts.1;
    }

entries_are : (schema : List Column) (page : List ℕ) (slot left : ℕ) → IsBytes page → AllByRecursion (λ entry. heap_entry_fault schema entry ≡ None) (entries_left page slot left) → AllByRecursion (IsHeapEntry schema) (entries_left page slot left)
unfolding entries_left
entries_are schema page slot zero fits pass = tt
entries_are schema page slot (suc left) fits pass = (
  entry_is schema (entry_at page slot) (IsBytes-take (entry_to page slot - entry_from page slot) (drop (entry_from page slot) page) (IsBytes-drop (entry_from page slot) page fits)) pass.0,
  entries_are schema page (suc slot) left fits pass.1,
)

entries_each : (schema : List Column) (entries : List (List ℕ)) → 0 < length schema → AllByRecursion (IsHeapEntry schema) entries → (slot : ℕ) → slot < length entries → (heap_entry_fault schema (get_or entries slot []) ≡ None) × (0 < length (get_or entries slot []))
entries_each schema [] some each slot lt = absurd (omega arith)
entries_each schema (entry ∷ entries) some each zero lt = (entry_passes schema entry each.0, entry_some schema entry some each.0.row)
entries_each schema (entry ∷ entries) some each (suc slot) lt = entries_each schema entries some each.1 slot (omega arith)

-- ---- heap pages

-- bytes with no fault are the page of the entries that are read from them
pub heap_found : (version number : ℕ) (schema : List Column) (page : List ℕ) → IsBytes page → length page ≡ 4096 → heap_fault version number schema page ≡ None → IsHeapPage version number schema page (entries_of page)
heap_found version number schema page fits long none =
    let is = made heap_kind version number (heap_entry_fault schema) page fits long none in
    record { some = is.some; fit = is.fit; each = entries_are schema page 0 (count_of page) fits is.each; whole = is.whole }

-- a page of rows has no fault
pub heap_faultless : (version number : ℕ) (schema : List Column) (page : List ℕ) (entries : List (List ℕ)) → number < 2 ^ 32 → 0 < length schema → IsHeapPage version number schema page entries → heap_fault version number schema page ≡ None
heap_faultless version number schema page entries lt some is =
    ap (heap_fault version number schema) is.whole
    ∙ made_faultless heap_kind version number (heap_entry_fault schema) entries lt is.fit is.some (entries_each schema entries some is.each)

-- and its entries are those that are read from it
pub heap_entries : (version number : ℕ) (schema : List Column) (page : List ℕ) (entries : List (List ℕ)) → IsHeapPage version number schema page entries → entries_of page ≡ entries
heap_entries version number schema page entries is = ap entries_of is.whole ∙ made_entries heap_kind version number entries is.fit

-- what a call that read a page answered, and that it says what the page is
pub is_found : (version number : ℕ) (schema : List Column) (page : List ℕ) (r : Result (List (List ℕ)) Form) → IsBytes page → length page ≡ 4096
    → IfOk r (λ view. view ≡ entries_of page) → Tells r (heap_fault version number schema page) → IfOk r (λ view. IsHeapPage version number schema page view)
is_found version number schema page (Ok view) fits long read none = rw read (heap_found version number schema page fits long none)
is_found version number schema page (Err form) fits long read fault = tt

pub is_only : (version number : ℕ) (schema : List Column) (page : List ℕ) (r : Result (List (List ℕ)) Form) → number < 2 ^ 32 → 0 < length schema
    → IfOk r (λ view. view ≡ entries_of page) → Tells r (heap_fault version number schema page)
    → (entries : List (List ℕ)) → IsHeapPage version number schema page entries → MatchResult r (λ view. view ≡ entries) (λ _. ⊥)
is_only version number schema page (Ok view) lt some read none entries is = read ∙ heap_entries version number schema page entries is
is_only version number schema page (Err form) lt some read fault entries is =
    let none = heap_faultless version number schema page entries lt some is in
    let both : Some form.byte ≡ None = sym fault ∙ none in
    absurd cc

-- the place that a test of a row names is in the row, or its end
pub row_fault_within : (schema : List Column) (row : List ℕ) (r : Result (Unit {0}) ℕ) → MatchResult r (λ _. row_fault schema row ≡ None) (λ byte. row_fault schema row ≡ Some byte) → IfErr r (λ byte. byte ≤ length row)
row_fault_within schema row (Ok _) fault = tt
row_fault_within schema row (Err byte) fault = omega (arith, fault_within 0 schema row byte fault)
