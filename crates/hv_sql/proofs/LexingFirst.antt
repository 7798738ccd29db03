-- The first token of what is left of a text.
use Rattle.std.proofs.Common.{◌≡◌, ℕ, ◌+◌, ◌-◌, ◌<◌, ◌≤◌, false, List, [], ◌∷◌, length, take, drop, get_or, ap, sym, ◌∙◌, subst, arith}
use Rattle.std.proofs.lemmas.List.{drop_all}
use Rattle.hv_model.specs.declared.lexeme.Token.{Token}
use Rattle.hv_model.specs.declared.lexeme.Lexeme.{Lexeme}
use Rattle.hv_model.specs.declared.lexeme.What.{What}
use Rattle.hv_model.specs.Token.{is_white}
use Rattle.hv_model.specs.Lexemes.{token_length, token_at, tokens_from, sort_of, bytes_of, IsOf}
use Rattle.hv_model.specs.Lexed.{what_of, lexemes_of}
use Rattle.hv_sql.proofs.LexingLaws.{of_its_sort}
use Rattle.hv_sql.proofs.LexingSteps.{token_behind}

-- the token at a place is of its sort
pub token_sorted : (text : List ℕ) (at : ℕ) (t : Token) → t ≡ token_at at (drop at text) → IsOf t.sort (bytes_of text t)
token_sorted text at t is =
    let rest = drop at text in
    let n = token_length rest in
    let width : n ≡ at + n - at = omega arith in
    subst (λ (x : Token). IsOf x.sort (bytes_of text x)) (sym is) (subst (λ (k : ℕ). IsOf (sort_of (take n rest)) (take k rest)) width (of_its_sort (take n rest)))

-- it is the first lexeme of what is left, and those behind it follow
pub first_lexeme : (text : List ℕ) (at from : ℕ) (t : Token) (w : What) → tokens_from at 0 (drop at text) ≡ tokens_from from 0 (drop from text) → from < length text
    → is_white (get_or text from 0) ≡ false → t ≡ token_at from (drop from text) → t.to ≤ length text → w ≡ what_of t.sort (bytes_of text t)
    → lexemes_of text (tokens_from at 0 (drop at text)) ≡ record { what = w; byte = t.from } ∷ lexemes_of text (tokens_from t.to 0 (drop t.to text))
first_lexeme text at from t w same lt dark is within seen =
    let behind : List Lexeme = lexemes_of text (tokens_from t.to 0 (drop t.to text)) in
    ap (lexemes_of text) (same ∙ token_behind text from t lt dark is within)
    ∙ ap (λ (x : What). record { what = x; byte = t.from } ∷ behind) (sym seen)

-- at the end no lexeme is left
pub no_lexeme : (text : List ℕ) (at from : ℕ) → tokens_from at 0 (drop at text) ≡ tokens_from from 0 (drop from text) → length text ≤ from
    → lexemes_of text (tokens_from at 0 (drop at text)) ≡ []
no_lexeme text at from same end = ap (lexemes_of text) (same ∙ ap (tokens_from from 0) (drop_all from text end))
