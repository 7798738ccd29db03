-- Places that have the table of an earlier place: their rows are those of the earlier one.
use Rattle.std.proofs.Common.{◌≡◌, ℕ, List, get_or, map, Some, ◌∙◌, ap}
use Rattle.std.specs.Prelude.{◌==◌, position}
use Rattle.std.proofs.lemmas.Bool.{eqb-true}
use Rattle.std.proofs.lemmas.List.{get_or-map}
use Rattle.std.proofs.lemmas.List.Quantifiers.{position-Some}
use Rattle.hv_row.specs.declared.value.Value.{Value}

-- the rows of an earlier place with the same table are those of the place
pub copied_rows : (rows_of : ℕ → List (List Value)) (earlier : List ℕ) (tables : List (List (List Value))) (at place : ℕ) (rows : List (List Value)) → position (λ other. other == at) earlier ≡ Some place → tables ≡ map rows_of earlier → rows ≡ get_or tables place rows
    → rows ≡ rows_of at
copied_rows rows_of earlier tables at place rows found are is =
    let first = position-Some (λ other. other == at) earlier place 0 found in
    is ∙ ap (λ l. get_or l place rows) are ∙ get_or-map rows_of earlier place 0 rows first.0 ∙ ap rows_of (eqb-true (get_or earlier place 0) at first.1)
