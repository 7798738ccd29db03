-- The words by which what was read is completed: the name `a`, the number 0, symbols and keywords. They are written without quotes.
use Rattle.std.proofs.Common.{ℕ, Bool, true, false, List, [], ◌∷◌}
use Rattle.std.specs.Prelude.{◌==◌}
use Rattle.hv_model.specs.declared.lexeme.What.{What}
use Rattle.hv_model.specs.declared.lexeme.What.TheVariants as what

-- whether a name is `a`
abbrev pub is_a : List ℕ → Bool
is_a (b ∷ []) = b == 97
is_a _ = false

abbrev pub is_plain : What → Bool
is_plain (what.Name name) = is_a name
is_plain (what.Number value) = value == 0
is_plain (what.Text _) = false
is_plain (what.Symbol _) = true
is_plain (what.Keyword _) = true
is_plain what.Other = false
