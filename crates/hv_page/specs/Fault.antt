-- The first byte at which 4,096 bytes are no page. This project's own.
use Rattle.std.specs.Prelude.{◌≡◌, ℕ, zero, suc, ◌+◌, ◌-◌, ◌<◌, ◌≤◌, Bool, ◌&&◌, List, [], ◌∷◌, length, get_or, take, drop, Option, Some, None, Result, MatchResult, nat_eq, nat_lt, nat_le, if◌then◌else◌}
use Rattle.std.specs.Int.{w16, w32, from_be_bytes}
use Rattle.hv_row.specs.declared.schema.Column.{Column}
use Rattle.hv_row.specs.Spelling.{row_fault}
use Rattle.hv_page.specs.declared.layout.Form.{Form}
use Rattle.hv_page.specs.Layout.{entries_from}
use Rattle.hv_page.specs.Heap.{heap_kind}

-- the first of two faults
infixr 10 ◌orelse◌
abbrev pub ◌orelse◌ : Option ℕ → Option ℕ → Option ℕ
None orelse next = next
(Some byte) orelse next = Some byte

-- the fault of this byte, unless something holds
abbrev pub unless : Bool → ℕ → Option ℕ
unless holds byte = if holds then None else Some byte

-- the number of 2 bytes at a place
abbrev pub short_at : List ℕ → ℕ → ℕ
short_at page at = from_be_bytes w16 (take 2 (drop at page))

-- how many entries a page says that it has
abbrev pub count_of : List ℕ → ℕ
count_of page = short_at page 4

-- the place that it says is the first one behind them
abbrev pub used_of : List ℕ → ℕ
used_of page = short_at page 6

-- the place of an entry, by its offset
abbrev pub entry_from : List ℕ → ℕ → ℕ
entry_from page slot = short_at page (entries_from slot)

-- the place behind an entry: the next one's, or for the last one the first behind all
abbrev pub entry_to : List ℕ → ℕ → ℕ
entry_to page slot = if nat_eq (suc slot) (count_of page) then used_of page else entry_from page (suc slot)

-- the bytes of an entry
abbrev pub entry_at : List ℕ → ℕ → List ℕ
entry_at page slot = take (entry_to page slot - entry_from page slot) (drop (entry_from page slot) page)

-- a byte that must have one value
abbrev pub byte_fault : List ℕ → ℕ → ℕ → Option ℕ
byte_fault page at byte = unless (nat_eq (get_or page at 0) byte) at

-- the letters, the kind and the version, each by itself
abbrev pub start_fault : ℕ → ℕ → List ℕ → Option ℕ
start_fault kind version page = byte_fault page 0 79 orelse byte_fault page 1 68 orelse byte_fault page 2 kind orelse byte_fault page 3 version

-- there is an entry, and room for all offsets
abbrev pub count_fault : List ℕ → Option ℕ
count_fault page = unless (nat_lt 0 (count_of page) && nat_le (entries_from (count_of page)) 4096) 4

-- the entries end behind the offsets, in the page
abbrev pub used_fault : List ℕ → Option ℕ
used_fault page = unless (nat_lt (entries_from (count_of page)) (used_of page) && nat_le (used_of page) 4096) 6

-- the page's number, and the four zeros, each by itself
abbrev pub number_fault : ℕ → List ℕ → Option ℕ
number_fault number page = unless (nat_eq (from_be_bytes w32 (take 4 (drop 8 page))) number) 8 orelse byte_fault page 12 0 orelse byte_fault page 13 0 orelse byte_fault page 14 0 orelse byte_fault page 15 0

-- an offset is the place behind the offsets for the first entry, else greater than the one before, and less than the place behind the entries
abbrev pub offset_fits : List ℕ → ℕ → Bool
offset_fits page zero = nat_eq (entry_from page 0) (entries_from (count_of page)) && nat_lt (entry_from page 0) (used_of page)
offset_fits page (suc slot) = nat_lt (entry_from page slot) (entry_from page (suc slot)) && nat_lt (entry_from page (suc slot)) (used_of page)

-- the first offset of so many, from a slot on, that doesn't fit
unfoldable pub offsets_fault : List ℕ → ℕ → ℕ → Option ℕ
offsets_fault page slot zero = None
offsets_fault page slot (suc left) = unless (offset_fits page slot) (entries_from slot) orelse offsets_fault page (suc slot) left

-- a fault inside an entry, as a place of the page
abbrev pub behind_place : ℕ → Option ℕ → Option ℕ
behind_place at None = None
behind_place at (Some byte) = Some (at + byte)

-- the first fault in an entry of so many, from a slot on, where a test gives the first place in an entry at fault
unfoldable pub entries_fault : (List ℕ → Option ℕ) → List ℕ → ℕ → ℕ → Option ℕ
entries_fault test page slot zero = None
entries_fault test page slot (suc left) = behind_place (entry_from page slot) (test (entry_at page slot)) orelse entries_fault test page (suc slot) left

-- the first place, counted from `at`, whose byte isn't 0
unfoldable pub zeros_fault : ℕ → List ℕ → Option ℕ
zeros_fault at [] = None
zeros_fault at (byte ∷ bytes) = unless (nat_eq byte 0) at orelse zeros_fault (suc at) bytes

-- the first place in an entry of a heap page at which it is no row of the schema; its own place where it is over 2,000 bytes
abbrev pub heap_entry_fault : List Column → List ℕ → Option ℕ
heap_entry_fault schema entry = unless (nat_le (length entry) 2000) 0 orelse row_fault schema entry

-- the first byte at which 4,096 bytes are no page of a kind, version and number whose entries pass a test
abbrev pub page_fault : ℕ → ℕ → ℕ → (List ℕ → Option ℕ) → List ℕ → Option ℕ
page_fault kind version number test page =
    start_fault kind version page
    orelse count_fault page
    orelse used_fault page
    orelse number_fault number page
    orelse offsets_fault page 0 (count_of page)
    orelse entries_fault test page 0 (count_of page)
    orelse zeros_fault (used_of page) (drop (used_of page) page)

-- the first byte at which they are no heap page under a schema
abbrev pub heap_fault : ℕ → ℕ → List Column → List ℕ → Option ℕ
heap_fault version number schema page = page_fault heap_kind version number (heap_entry_fault schema) page

-- what a test of some points answers: nothing, or the byte at fault
abbrev pub Tells : {A : Type 0} → Result A Form → Option ℕ → Type 0
Tells result fault = MatchResult result (λ _. fault ≡ None) (λ form. fault ≡ Some form.byte)

-- so many entries of a page, from a slot on
unfoldable pub entries_left : List ℕ → ℕ → ℕ → List (List ℕ)
entries_left page slot zero = []
entries_left page slot (suc left) = entry_at page slot ∷ entries_left page (suc slot) left

-- the entries that a page says it has
abbrev pub entries_of : List ℕ → List (List ℕ)
entries_of page = entries_left page 0 (count_of page)

-- a page whose offsets say where in it each entry stands
pub record IsReadable (page : List ℕ) (count : ℕ) : Type 0 where
  pub bytes : length page ≡ 4096
  pub counted : count_of page ≡ count
  pub room : entries_from count ≤ 4096
  pub inside : (slot : ℕ) → slot < count → (entry_from page slot ≤ entry_to page slot) × (entry_to page slot ≤ 4096)
