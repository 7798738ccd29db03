-- One column on, in the loop over the columns of a place: i columns are behind it.
use Rattle.std.proofs.Common.{◌≡◌, ℕ, ◌+◌, ◌<◌, List, [], ◌∷◌, length, drop, arith}
use Rattle.std.proofs.lemmas.List.{at_drop_more}
use Rattle.hv_row.specs.declared.schema.Column.{Column}
use Rattle.hv_model.specs.Scope.{column_at, columns_from}

pub columns_next : (place at : ℕ) (cs : List Column) (i : ℕ) → i < length cs → columns_from place at (drop i cs) ≡ column_at place at ∷ columns_from place (at + 1) (drop (i + 1) cs)
columns_next place at [] i lt = absurd (omega arith)
columns_next place at (c ∷ cs) i lt = at_drop_more (columns_from place at) (c ∷ cs) i c lt
