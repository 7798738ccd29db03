-- Words that are written with spaces between them are read as those words.
use Rattle.std.proofs.Common.{◌≡◌, ℕ, ◌+◌, ◌-◌, true, not, eqb, List, [], ◌∷◌, ◌++◌, length, take, drop, refl, ap, sym, ◌∙◌, subst, append-nil, append_assoc, arith}
use Rattle.std.specs.Prelude.{codes}
use Rattle.std.specs.List.{list_all}
use Rattle.std.proofs.lemmas.Bool.{and_parts, eqb-true, false≢true}
use Rattle.std.proofs.lemmas.List.{length-append, take_all}
use Rattle.std.proofs.lemmas.List.Folds.{list_all-append}
use Rattle.std.proofs.Math.Seq.{take-append_seam, drop-append-add}
use Rattle.hv_model.specs.declared.lexeme.Token.{Token}
use Rattle.hv_model.specs.declared.lexeme.What.{What}
use Rattle.hv_model.specs.declared.lexeme.What.TheVariants as what
use Rattle.hv_model.specs.declared.lexeme.Keyword.TheVariants as k
use Rattle.hv_model.specs.declared.lexeme.Symbol.TheVariants as s
use Rattle.hv_model.specs.Lexemes.{keyword_spelling, symbol_spelling, is_lexeme, is_run, is_symbol, sort_of, token_length, token_at, tokens_from}
use Rattle.hv_model.specs.Lexed.{what_of, lexeme_of, lexemes_of}
use Rattle.hv_model.specs.Terminals.{whats}
use Rattle.hv_sql.proofs.Plain.{is_a, is_plain}
use Rattle.hv_sql.proofs.Boundary.{quoteless, Apart}
use Rattle.hv_sql.proofs.Cut.{cut}

-- how a word is written
abbrev pub spelled : What → List ℕ
spelled (what.Name name) = name
spelled (what.Number _) = codes "0"
spelled (what.Text _) = []
spelled (what.Symbol s) = symbol_spelling s
spelled (what.Keyword k) = keyword_spelling k
spelled what.Other = []

-- words, each behind a space
abbrev pub spelt : List What → List ℕ
spelt [] = []
spelt (w ∷ ws) = 32 ∷ (spelled w ++ spelt ws)

-- what is written is one token, which is the word
record Written (w : What) : Type 0 where
  pub alone : (at : ℕ) → tokens_from at 0 (spelled w) ≡ token_at at (spelled w) ∷ []
  pub long : token_length (spelled w) ≡ length (spelled w)
  pub is : what_of (sort_of (spelled w)) (spelled w) ≡ w
  pub plain : quoteless (spelled w) ≡ true

name_a : Written (what.Name (97 ∷ []))
unfolding token_length is_lexeme is_run is_symbol sort_of
name_a = record { alone = λ at. refl; long = refl; is = refl; plain = refl }

number_0 : Written (what.Number 0)
unfolding token_length is_lexeme is_run is_symbol sort_of
number_0 = record { alone = λ at. refl; long = refl; is = refl; plain = refl }

name_written : (name : List ℕ) → is_a name ≡ true → Written (what.Name name)
name_written [] e = absurd (false≢true e)
name_written (b ∷ []) e = subst (λ (x : ℕ). Written (what.Name (x ∷ []))) (sym (eqb-true b 97 e)) name_a
name_written (b ∷ c ∷ bs) e = absurd (false≢true e)

written : (w : What) → is_plain w ≡ true → Written w
unfolding token_length is_lexeme is_run is_symbol sort_of
written (what.Name name) e = name_written name e
written (what.Number value) e = subst (λ (x : ℕ). Written (what.Number x)) (sym (eqb-true value 0 e)) number_0
written (what.Text text) e = absurd (false≢true e)
written what.Other e = absurd (false≢true e)
written (what.Keyword k.And) e = record { alone = λ at. refl; long = refl; is = refl; plain = refl }
written (what.Keyword k.As) e = record { alone = λ at. refl; long = refl; is = refl; plain = refl }
written (what.Keyword k.Asc) e = record { alone = λ at. refl; long = refl; is = refl; plain = refl }
written (what.Keyword k.Barrier) e = record { alone = λ at. refl; long = refl; is = refl; plain = refl }
written (what.Keyword k.By) e = record { alone = λ at. refl; long = refl; is = refl; plain = refl }
written (what.Keyword k.Chunk) e = record { alone = λ at. refl; long = refl; is = refl; plain = refl }
written (what.Keyword k.Chunks) e = record { alone = λ at. refl; long = refl; is = refl; plain = refl }
written (what.Keyword k.Count) e = record { alone = λ at. refl; long = refl; is = refl; plain = refl }
written (what.Keyword k.Create) e = record { alone = λ at. refl; long = refl; is = refl; plain = refl }
written (what.Keyword k.Desc) e = record { alone = λ at. refl; long = refl; is = refl; plain = refl }
written (what.Keyword k.From) e = record { alone = λ at. refl; long = refl; is = refl; plain = refl }
written (what.Keyword k.Group) e = record { alone = λ at. refl; long = refl; is = refl; plain = refl }
written (what.Keyword k.Import) e = record { alone = λ at. refl; long = refl; is = refl; plain = refl }
written (what.Keyword k.Index) e = record { alone = λ at. refl; long = refl; is = refl; plain = refl }
written (what.Keyword k.Int) e = record { alone = λ at. refl; long = refl; is = refl; plain = refl }
written (what.Keyword k.Into) e = record { alone = λ at. refl; long = refl; is = refl; plain = refl }
written (what.Keyword k.Is) e = record { alone = λ at. refl; long = refl; is = refl; plain = refl }
written (what.Keyword k.Limit) e = record { alone = λ at. refl; long = refl; is = refl; plain = refl }
written (what.Keyword k.Lines) e = record { alone = λ at. refl; long = refl; is = refl; plain = refl }
written (what.Keyword k.Max) e = record { alone = λ at. refl; long = refl; is = refl; plain = refl }
written (what.Keyword k.Merge) e = record { alone = λ at. refl; long = refl; is = refl; plain = refl }
written (what.Keyword k.Min) e = record { alone = λ at. refl; long = refl; is = refl; plain = refl }
written (what.Keyword k.Not) e = record { alone = λ at. refl; long = refl; is = refl; plain = refl }
written (what.Keyword k.Null) e = record { alone = λ at. refl; long = refl; is = refl; plain = refl }
written (what.Keyword k.Of) e = record { alone = λ at. refl; long = refl; is = refl; plain = refl }
written (what.Keyword k.Or) e = record { alone = λ at. refl; long = refl; is = refl; plain = refl }
written (what.Keyword k.Order) e = record { alone = λ at. refl; long = refl; is = refl; plain = refl }
written (what.Keyword k.Purge) e = record { alone = λ at. refl; long = refl; is = refl; plain = refl }
written (what.Keyword k.Range) e = record { alone = λ at. refl; long = refl; is = refl; plain = refl }
written (what.Keyword k.Select) e = record { alone = λ at. refl; long = refl; is = refl; plain = refl }
written (what.Keyword k.Session) e = record { alone = λ at. refl; long = refl; is = refl; plain = refl }
written (what.Keyword k.Sum) e = record { alone = λ at. refl; long = refl; is = refl; plain = refl }
written (what.Keyword k.Summary) e = record { alone = λ at. refl; long = refl; is = refl; plain = refl }
written (what.Keyword k.Table) e = record { alone = λ at. refl; long = refl; is = refl; plain = refl }
written (what.Keyword k.Text) e = record { alone = λ at. refl; long = refl; is = refl; plain = refl }
written (what.Keyword k.Where) e = record { alone = λ at. refl; long = refl; is = refl; plain = refl }
written (what.Symbol s.Open) e = record { alone = λ at. refl; long = refl; is = refl; plain = refl }
written (what.Symbol s.Close) e = record { alone = λ at. refl; long = refl; is = refl; plain = refl }
written (what.Symbol s.Comma) e = record { alone = λ at. refl; long = refl; is = refl; plain = refl }
written (what.Symbol s.Dot) e = record { alone = λ at. refl; long = refl; is = refl; plain = refl }
written (what.Symbol s.Star) e = record { alone = λ at. refl; long = refl; is = refl; plain = refl }
written (what.Symbol s.Minus) e = record { alone = λ at. refl; long = refl; is = refl; plain = refl }
written (what.Symbol s.Equal) e = record { alone = λ at. refl; long = refl; is = refl; plain = refl }
written (what.Symbol s.Unequal) e = record { alone = λ at. refl; long = refl; is = refl; plain = refl }
written (what.Symbol s.NotEqual) e = record { alone = λ at. refl; long = refl; is = refl; plain = refl }
written (what.Symbol s.Less) e = record { alone = λ at. refl; long = refl; is = refl; plain = refl }
written (what.Symbol s.AtMost) e = record { alone = λ at. refl; long = refl; is = refl; plain = refl }
written (what.Symbol s.Greater) e = record { alone = λ at. refl; long = refl; is = refl; plain = refl }
written (what.Symbol s.AtLeast) e = record { alone = λ at. refl; long = refl; is = refl; plain = refl }

spelt_quoteless : (ws : List What) → list_all is_plain ws ≡ true → quoteless (spelt ws) ≡ true
spelt_quoteless [] h = refl
spelt_quoteless (w ∷ ws) h =
    let parts = and_parts (is_plain w) (list_all is_plain ws) h in
    list_all-append (λ b. not (eqb b 39)) (spelled w) (spelt ws) ∙ rw (written w parts.0).plain (spelt_quoteless ws parts.1)

pub spelt_apart : (ws : List What) → list_all is_plain ws ≡ true → Apart (spelt ws)
spelt_apart [] h = tt
spelt_apart (w ∷ ws) h = (refl, spelt_quoteless (w ∷ ws) h)

left_all : (xs left right : List ℕ) → xs ≡ left ++ right → length xs ≡ length left → left ≡ xs
left_all xs left [] e n = sym (append-nil left) ∙ sym e
left_all xs left (b ∷ right) e n =
    let long : length xs ≡ length (left ++ b ∷ right) = ap length e in
    let sum = length-append left (b ∷ right) in
    absurd (omega (arith, n, long, sum))

-- one token stays it before other bytes
alone_before : (xs m : List ℕ) (at : ℕ) (t : Token) → tokens_from at 0 xs ≡ t ∷ [] → Apart m → tokens_from at 0 (xs ++ m) ≡ t ∷ tokens_from (at + length xs) 0 m
alone_before xs m at t e a =
    let c = cut xs at 0 (t ∷ []) [] (omega arith) e in
    let place = c.place in
    let same : c.left ≡ xs = left_all xs c.left c.right c.is (omega (arith, place)) in
    subst (λ (z : List ℕ). tokens_from at 0 (z ++ m) ≡ t ∷ tokens_from (at + length z) 0 m) same (c.goes m a)

read_word : (p : List ℕ) (w : What) (m : List ℕ) → Written w → (lexeme_of (p ++ 32 ∷ (spelled w ++ m)) (token_at (length p + 1) (spelled w))).what ≡ w
read_word p w m it =
    let xs = spelled w in
    let n = token_length xs in
    let at = length p + 1 in
    let long = it.long in
    let whole : take n xs ≡ xs = ap (λ (k : ℕ). take k xs) long ∙ take_all (length xs) xs (omega arith) in
    let width : at + n - at ≡ length xs = omega (arith, long) in
    let bytes : take (at + n - at) (drop at (p ++ 32 ∷ (xs ++ m))) ≡ xs =
    ap (λ (x : List ℕ). take (at + n - at) x) (drop-append-add p (32 ∷ (xs ++ m)) 1) ∙ ap (λ (k : ℕ). take k (xs ++ m)) width ∙ take-append_seam xs m in
    ap (λ (x : List ℕ). what_of (sort_of x) (take (at + n - at) (drop at (p ++ 32 ∷ (xs ++ m))))) whole ∙ ap (what_of (sort_of xs)) bytes ∙ it.is

-- the words behind any bytes are read
pub spelt_whats : (ws : List What) (p : List ℕ) → list_all is_plain ws ≡ true → whats (lexemes_of (p ++ spelt ws) (tokens_from (length p) 0 (spelt ws))) ≡ ws
spelt_whats [] p h = refl
spelt_whats (w ∷ ws) p h =
    let parts = and_parts (is_plain w) (list_all is_plain ws) h in
    let it = written w parts.0 in
    let xs = spelled w in
    let m = spelt ws in
    let text = p ++ 32 ∷ (xs ++ m) in
    let at = length p + 1 in
    let t = token_at at xs in
    let before = p ++ 32 ∷ xs in
    let sum = length-append p (32 ∷ xs) in
    let long : length before ≡ at + length xs = omega (arith, sum) in
    let tail : whats (lexemes_of text (tokens_from (at + length xs) 0 m)) ≡ ws =
    ap (λ (k : ℕ). whats (lexemes_of text (tokens_from k 0 m))) (sym long)
    ∙ ap (λ (x : List ℕ). whats (lexemes_of x (tokens_from (length before) 0 m))) (sym (append_assoc p (32 ∷ xs) m)) ∙ spelt_whats ws before parts.1 in
    ap (λ (ts : List Token). whats (lexemes_of text ts)) (alone_before xs m at t (it.alone at) (spelt_apart ws parts.1))
    ∙ ap (λ (x : What). x ∷ whats (lexemes_of text (tokens_from (at + length xs) 0 m))) (read_word p w m it)
    ∙ ap (λ (x : List What). w ∷ x) tail
