-- Rows that fit their columns.
use Rattle.std.proofs.Common.{◌≡◌, length, List, [], ◌∷◌, refl, arith}
use Rattle.hv_row.specs.declared.value.Value.{Value}
use Rattle.hv_row.specs.declared.schema.Column.{Column}
use Rattle.hv_row.specs.Row.{RowFits}

-- a row that fits has a value for each column
pub row_fits_length : (cs : List Column) (vs : List Value) → RowFits cs vs → length vs ≡ length cs
row_fits_length [] [] fits = refl
row_fits_length [] (_ ∷ _) fits = absurd fits
row_fits_length (_ ∷ _) [] fits = absurd fits
row_fits_length (c ∷ cs) (v ∷ vs) fits = omega (arith, row_fits_length cs vs fits.1)
