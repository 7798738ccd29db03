-- Values and their types: signed 64-bit numbers and texts. This project's own.
use Rattle.std.specs.Prelude.{ℕ, ◌≤◌, List, ◌∷◌, length, FitsSigned, IsUtf8}
use Rattle.std.specs.Ordering.{nat_cmp, int_cmp}
use Rattle.std.specs.Int.{w64, to_be_bytes, cast_unsigned}
use Rattle.std.specs.Cmp.Lexicographic.{slice_cmp}
use Rattle.std.specs.declared.cmp.Ordering.{Ordering}
use Rattle.std.specs.declared.cmp.Ordering.TheVariants.{Less, Greater}
use Rattle.hv_row.specs.declared.value.Value.{Value}
use Rattle.hv_row.specs.declared.value.Value.TheVariants.{Int, Text}
use Rattle.hv_row.specs.declared.value.ColType.{ColType}
use Rattle.hv_row.specs.declared.value.ColType.TheVariants as kind

-- the type of a value
abbrev pub type_of : Value → ColType
type_of (Int _) = kind.Int
type_of (Text _) = kind.Text

-- numbers are ordered by value, texts by their bytes; values of two types are never compared
abbrev pub value_order : Value → Value → Ordering
value_order (Int x) (Int y) = int_cmp x y
value_order (Int _) (Text _) = Less
value_order (Text _) (Int _) = Greater
value_order (Text x) (Text y) = slice_cmp nat_cmp x y

-- a text of a column: UTF-8 of at most 255 bytes
pub record IsTextValue (bytes : List ℕ) : Type 0 where
  pub short : length bytes ≤ 255
  pub utf8 : IsUtf8 bytes

-- a value that a column of this type may hold
abbrev pub FitsType : ColType → Value → Type 0
FitsType kind.Int (Int x) = FitsSigned w64 x
FitsType kind.Int (Text _) = ⊥
FitsType kind.Text (Int _) = ⊥
FitsType kind.Text (Text bytes) = IsTextValue bytes

-- the bytes of a value: a number in two's complement, 8 bytes, the high byte first; a text behind one byte that has its length
abbrev pub value_bytes : ColType → Value → List ℕ
value_bytes _ (Int x) = to_be_bytes w64 (cast_unsigned w64 x)
value_bytes _ (Text bytes) = length bytes ∷ bytes
