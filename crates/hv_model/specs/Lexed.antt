-- The tokens of a text as the lexemes that the grammar reads. This project's own.
use Rattle.std.specs.Prelude.{◌≤◌, ℕ, List, [], ◌∷◌, length, map, min, Option, Some, None}
use Rattle.std.specs.Str.Parse.{digits_value}
use Rattle.hv_model.specs.declared.lexeme.Sort.{Sort}
use Rattle.hv_model.specs.declared.lexeme.Sort.TheVariants as sort
use Rattle.hv_model.specs.declared.lexeme.Token.{Token}
use Rattle.hv_model.specs.declared.lexeme.Keyword.{Keyword}
use Rattle.hv_model.specs.declared.lexeme.Symbol.{Symbol}
use Rattle.hv_model.specs.declared.lexeme.Lexeme.{Lexeme}
use Rattle.hv_model.specs.declared.lexeme.What.{What}
use Rattle.hv_model.specs.declared.lexeme.What.TheVariants as what
use Rattle.hv_model.specs.Lexemes.{keyword_of, symbol_of, text_value, bytes_of, tokens_of, IsOf}

-- the value of a number, or 2 ^ 64 - 1 where it is greater
abbrev pub number_value : List ℕ → ℕ
number_value bytes = min (digits_value 10 bytes) 18446744073709551615

-- a keyword, where one is found
abbrev pub some_keyword : Option Keyword → What
some_keyword (Some k) = what.Keyword k
some_keyword None = what.Other

-- a symbol, where one is found
abbrev pub some_symbol : Option Symbol → What
some_symbol (Some s) = what.Symbol s
some_symbol None = what.Other

-- what the bytes of a token of this sort are
abbrev pub what_of : Sort → List ℕ → What
what_of sort.Name bytes = what.Name bytes
what_of sort.Keyword bytes = some_keyword (keyword_of bytes)
what_of sort.Number bytes = what.Number (number_value bytes)
what_of sort.Text bytes = what.Text (text_value bytes)
what_of sort.Symbol bytes = some_symbol (symbol_of bytes)
what_of sort.Other bytes = what.Other

-- a token of a text as a lexeme
abbrev pub lexeme_of : List ℕ → Token → Lexeme
lexeme_of text token = record { what = what_of token.sort (bytes_of text token); byte = token.from }

-- tokens of a text as lexemes
abbrev pub lexemes_of : List ℕ → List Token → List Lexeme
lexemes_of text tokens = map (lexeme_of text) tokens

-- the lexemes of a text
abbrev pub lexemes : List ℕ → List Lexeme
lexemes text = lexemes_of text (tokens_of text)

-- a token stands in a text and is of its sort
pub record StandsIn (text : List ℕ) (token : Token) : Type 0 where
  pub order : token.from ≤ token.to
  pub within : token.to ≤ length text
  pub sorted : IsOf token.sort (bytes_of text token)

-- each of the tokens does
abbrev pub AllStandIn : List ℕ → List Token → Type 0
AllStandIn text [] = Unit {0}
AllStandIn text (t ∷ ts) = StandsIn text t × AllStandIn text ts
