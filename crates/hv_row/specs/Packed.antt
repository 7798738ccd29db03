-- Rows read from their bytes in place, and rows kept one behind another. This project's own.
use Rattle.std.specs.Prelude.{◌≡◌, ℕ, zero, suc, ◌+◌, ◌-◌, ◌≤◌, List, [], ◌∷◌, ◌++◌, length, get_or, take, drop}
use Rattle.std.specs.List.{AllByRecursion}
use Rattle.std.specs.Int.{w64, from_be_bytes, cast_signed}
use Rattle.hv_row.specs.declared.value.Value.{Value}
use Rattle.hv_row.specs.declared.value.Value.TheVariants.{Int, Text}
use Rattle.hv_row.specs.declared.value.ColType.{ColType}
use Rattle.hv_row.specs.declared.value.ColType.TheVariants as kind
use Rattle.hv_row.specs.declared.schema.Column.{Column}
use Rattle.hv_row.specs.declared.value_ref.ValueRef.{ValueRef}
use Rattle.hv_row.specs.declared.value_ref.ValueRef.TheVariants as lent
use Rattle.hv_row.specs.Spelling.{IsSpelling}

-- the value that is lent
abbrev pub value_lent : ValueRef → Value
value_lent (lent.Int x) = Int x
value_lent (lent.Text bytes) = Text bytes.now

-- how many bytes the value takes with which bytes begin
abbrev pub value_size : ColType → List ℕ → ℕ
value_size kind.Int bytes = 8
value_size kind.Text bytes = 1 + get_or bytes 0 0

-- the value with which bytes begin
abbrev pub value_spelled : ColType → List ℕ → Value
value_spelled kind.Int bytes = Int (cast_signed w64 (from_be_bytes w64 (take 8 bytes)))
value_spelled kind.Text bytes = Text (take (get_or bytes 0 0) (drop 1 bytes))

-- the row that bytes spell
abbrev pub row_spelled : List Column → List ℕ → List Value
row_spelled [] bytes = []
row_spelled (c ∷ cs) bytes = value_spelled c.kind bytes ∷ row_spelled cs (drop (value_size c.kind bytes) bytes)

-- what packed rows are: rows under a schema
pub record Packed : Type 0 where
  pub schema : List Column
  pub rows : List (List Value)

-- packed rows with one row more
abbrev pub with_row : Packed → List Value → Packed
with_row packed row = record { schema = packed.schema; rows = packed.rows ++ row ∷ [] }

-- the pieces of bytes from a place on that end at these places
abbrev pub cut : ℕ → List ℕ → List ℕ → List (List ℕ)
cut from bytes [] = []
cut from bytes (to ∷ ends) = take (to - from) (drop from bytes) ∷ cut to bytes ends

-- where the piece at a place starts
abbrev pub start_of : ℕ → List ℕ → ℕ → ℕ
start_of from ends zero = from
start_of from ends (suc place) = get_or ends place 0

-- the ends go up from a place to the last one, which is this
abbrev pub AreEnds : ℕ → List ℕ → ℕ → Type 0
AreEnds from [] last = from ≡ last
AreEnds from (to ∷ ends) last = (from ≤ to) × AreEnds to ends last

-- the pieces take all bytes, and each is a row's
pub record ArePacked (schema : List Column) (bytes ends : List ℕ) : Type 0 where
  pub whole : AreEnds 0 ends (length bytes)
  pub each : AllByRecursion (IsSpelling schema) (cut 0 bytes ends)
