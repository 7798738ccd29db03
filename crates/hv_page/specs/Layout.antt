-- Pages of 4,096 bytes, each made whole from a list of entries. This project's own.
use Rattle.std.specs.Prelude.{◌≡◌, ℕ, ◌+◌, ◌-◌, ◌*◌, ◌<◌, ◌≤◌, List, [], ◌∷◌, ◌++◌, length, replicate}
use Rattle.std.specs.Int.{w16, w32, to_be_bytes}
use Rattle.std.specs.List.{concat, AllByRecursion}

-- the place of the first entry, behind 16 bytes and 2 for each offset
abbrev pub entries_from : ℕ → ℕ
entries_from count = 16 + 2 * count

-- the first place after the last entry
abbrev pub used_by : List (List ℕ) → ℕ
used_by entries = entries_from (length entries) + length (concat entries)

-- the places of entries that stand without gaps from a place on, 2 bytes each
unfoldable pub offsets : ℕ → List (List ℕ) → List ℕ
offsets from [] = []
offsets from (entry ∷ entries) = to_be_bytes w16 from ++ offsets (from + length entry) entries

-- the first 16 bytes: `OD`, the kind, the version, how many entries, the first place after them, the page's number, four zeros
abbrev pub header : ℕ → ℕ → ℕ → List (List ℕ) → List ℕ
header kind version number entries = 79 ∷ 68 ∷ kind ∷ version ∷ to_be_bytes w16 (length entries) ++ to_be_bytes w16 (used_by entries) ++ to_be_bytes w32 number ++ 0 ∷ 0 ∷ 0 ∷ 0 ∷ []

-- the page of a kind, version and number that has these entries
abbrev pub page_of : ℕ → ℕ → ℕ → List (List ℕ) → List ℕ
page_of kind version number entries = header kind version number entries ++ offsets (entries_from (length entries)) entries ++ concat entries ++ replicate (4096 - used_by entries) 0

-- the entries fit into a page
abbrev pub Fit : List (List ℕ) → Type 0
Fit entries = used_by entries ≤ 4096

-- the version of the pages that are written
abbrev pub written_version : ℕ
written_version = 1

-- a page with these entries, none at first, to which entries are added
pub record IsBegun (kind number : ℕ) (page : List ℕ) (entries : List (List ℕ)) : Type 0 where
  pub fit : Fit entries
  pub whole : page ≡ page_of kind written_version number entries

-- some page of this project that was begun
pub record WasBegun (page : List ℕ) : Type 0 where
  pub kind : ℕ
  pub number : ℕ
  pub entries : List (List ℕ)
  pub begun : IsBegun kind number page entries

-- a page of at least one entry, each of which is one of its sort
pub record IsPage (kind version number : ℕ) (IsEntry : List ℕ → Type 0) (page : List ℕ) (entries : List (List ℕ)) : Type 0 where
  pub some : 0 < length entries
  pub fit : Fit entries
  pub each : AllByRecursion IsEntry entries
  pub whole : page ≡ page_of kind version number entries
