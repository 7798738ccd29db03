-- The bytes of a row, read from left to right under a schema. This project's own.
use Rattle.std.specs.Prelude.{◌≡◌, ℕ, suc, ◌+◌, ◌<◌, ◌≤◌, List, [], ◌∷◌, length, take, drop, Option, Some, None, nat_lt, if◌then◌else◌}
use Rattle.std.specs.Str.{is_utf8}
use Rattle.hv_row.specs.declared.value.Value.{Value}
use Rattle.hv_row.specs.declared.value.ColType.{ColType}
use Rattle.hv_row.specs.declared.value.ColType.TheVariants as kind
use Rattle.hv_row.specs.declared.schema.Column.{Column}
use Rattle.hv_row.specs.declared.spelling.RowFault.{RowFault}
use Rattle.hv_row.specs.declared.spelling.RowFault.TheVariants as unspelt
use Rattle.hv_row.specs.declared.spelling.DecodeFault.{DecodeFault}
use Rattle.hv_row.specs.declared.spelling.DecodeFault.TheVariants as undecoded
use Rattle.hv_row.specs.Row.{RowFits, row_bytes}

-- these are the bytes of a row of the schema
pub record IsSpelling (schema : List Column) (spelling : List ℕ) : Type 0 where
  pub row : List Value
  pub fits : RowFits schema row
  pub spelt : spelling ≡ row_bytes schema row

-- how many bytes the value of a column takes that stands at the front; `None` where no value of its type does
unfoldable pub value_length : ColType → List ℕ → Option ℕ
value_length kind.Int bytes = if nat_lt (length bytes) 8 then None else Some 8
value_length kind.Text [] = None
value_length kind.Text (n ∷ rest) = if nat_lt (length rest) n then None else if is_utf8 (take n rest) then Some (suc n) else None

-- the place at which no value stands, or what comes behind the value
abbrev pub behind : ℕ → Option ℕ → (ℕ → Option ℕ) → Option ℕ
behind at None next = Some at
behind at (Some n) next = next n

-- the place, counted from `at`, of the first value that doesn't fit, or the row's end where bytes are left over
unfoldable pub fault_from : ℕ → List Column → List ℕ → Option ℕ
fault_from at [] [] = None
fault_from at [] (_ ∷ _) = Some at
fault_from at (c ∷ cs) bytes = behind at (value_length c.kind bytes) (λ n. fault_from (at + n) cs (drop n bytes))

-- the first place at which bytes are no row of the schema; `None` where they are one
abbrev pub row_fault : List Column → List ℕ → Option ℕ
row_fault schema bytes = fault_from 0 schema bytes

-- why a row was not spelled: it takes so many bytes, or memory ran out
abbrev pub IsUnspelt : RowFault → ℕ → Type 0
IsUnspelt (unspelt.TooLong bytes) long = (bytes ≡ long) × (2000 < long)
IsUnspelt unspelt.Memory long = long ≤ 2000

-- why bytes were not read as a row: the first place that is at fault, or memory ran out
abbrev pub IsUndecoded : DecodeFault → Option ℕ → Type 0
IsUndecoded (undecoded.Form byte) fault = fault ≡ Some byte
IsUndecoded undecoded.Memory fault = Unit {0}
