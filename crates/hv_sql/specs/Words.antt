-- Keywords by their length.
use Rattle.std.specs.Prelude.{ℕ, Bool, length, nat_eq}
use Rattle.hv_model.specs.declared.lexeme.Keyword.{Keyword}
use Rattle.hv_model.specs.Lexemes.{keyword_spelling}

-- whether a keyword has as many letters
abbrev pub has_length : ℕ → Keyword → Bool
has_length n word = nat_eq (length (keyword_spelling word)) n
