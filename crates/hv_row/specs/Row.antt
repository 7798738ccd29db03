-- Rows under a schema, and their bytes. This project's own.
use Rattle.std.specs.Prelude.{ℕ, List, [], ◌∷◌, ◌++◌}
use Rattle.hv_row.specs.declared.value.Value.{Value}
use Rattle.hv_row.specs.declared.schema.Column.{Column}
use Rattle.hv_row.specs.Value.{FitsType, value_bytes}

-- a row of a schema: one value of the right type for each column
abbrev pub RowFits : List Column → List Value → Type 0
RowFits [] [] = Unit {0}
RowFits [] (_ ∷ _) = ⊥
RowFits (_ ∷ _) [] = ⊥
RowFits (c ∷ cs) (v ∷ vs) = FitsType c.kind v × RowFits cs vs

-- the bytes of a row: each value in column order
abbrev pub row_bytes : List Column → List Value → List ℕ
row_bytes [] _ = []
row_bytes (_ ∷ _) [] = []
row_bytes (c ∷ cs) (v ∷ vs) = value_bytes c.kind v ++ row_bytes cs vs
