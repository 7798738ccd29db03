-- Columns and schemas. This project's own, after the table definition of ISO/IEC 9075.
use Rattle.std.specs.Prelude.{◌≡◌, ℕ, ◌+◌, ◌<◌, ◌≤◌, Bool, List, [], ◌∷◌, ◌++◌, length, Option, Some, None, nat_eq, if◌then◌else◌}
use Rattle.std.specs.List.{list_any}
use Rattle.std.specs.Cmp.Lexicographic.{pointwise}
use Rattle.hv_row.specs.declared.schema.Column.{Column}

-- whether two names are the same, byte for byte
abbrev pub same_name : List ℕ → List ℕ → Bool
same_name x y = pointwise nat_eq x y

-- whether one of the columns has this name
abbrev pub has_column : List Column → List ℕ → Bool
has_column columns name = list_any (λ c. same_name c.name name) columns

-- the first place, counted from `at`, of a column whose name stands among those before it
abbrev pub repeated_from : List Column → List Column → ℕ → Option ℕ
repeated_from before [] at = None
repeated_from before (c ∷ cs) at = if has_column before c.name then Some at else repeated_from (before ++ c ∷ []) cs (at + 1)

-- the place of the first column whose name stood before, counted from 0
abbrev pub first_repeated : List Column → Option ℕ
first_repeated columns = repeated_from [] columns 0

-- a schema: 1 to 32 columns with distinct names
pub record IsSchema (columns : List Column) : Type 0 where
  pub some : 0 < length columns
  pub short : length columns ≤ 32
  pub distinct : first_repeated columns ≡ None
