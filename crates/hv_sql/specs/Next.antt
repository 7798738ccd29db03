-- The next lexeme of a text.
use Rattle.std.specs.Prelude.{◌≡◌, List, [], ◌∷◌, Option, Some, None}
use Rattle.hv_model.specs.declared.lexeme.Lexeme.{Lexeme}
use Rattle.hv_model.specs.declared.lexeme.What.{What}
use Rattle.hv_model.specs.declared.lexeme.What.TheVariants as what
use Rattle.hv_sql.specs.declared.rest.Seen.{Seen}
use Rattle.hv_sql.specs.declared.rest.Seen.TheVariants as seen
use Rattle.hv_sql.specs.declared.rest.Next.{Next}
use Rattle.hv_model.specs.Lexemes.{text_value}

-- what is seen in a text
abbrev pub what_seen : Seen → What
what_seen (seen.Name bytes) = what.Name bytes.now
what_seen (seen.Keyword k) = what.Keyword k
what_seen (seen.Number n) = what.Number n
what_seen (seen.Text bytes) = what.Text (text_value bytes.now)
what_seen (seen.Symbol s) = what.Symbol s
what_seen seen.Other = what.Other

-- the lexeme that is next
abbrev pub lexeme_seen : Next → Lexeme
lexeme_seen next = record { what = what_seen next.what; byte = next.byte }

-- the first of lexemes and those behind it, if there is one
abbrev pub IsFirst : Option (Next × List Lexeme) → List Lexeme → Type 0
IsFirst None lexemes = lexemes ≡ []
IsFirst (Some x) lexemes = lexemes ≡ lexeme_seen x.0 ∷ x.1
