-- Keywords and symbols by their spellings.
use Rattle.std.proofs.Common.{◌≡◌, ◌↔◌, ℕ, Bool, true, nat_eq, List, [], ◌∷◌, Some, inl, inr, refl, ap, sym, ◌∙◌}
use Rattle.std.specs.List.{find}
use Rattle.std.specs.Cmp.Lexicographic.{pointwise}
use Rattle.std.proofs.lemmas.Bool.{cases_Bool, cond-true, cond-false}
use Rattle.std.proofs.lemmas.Slice.Eq.{bytes_eq-Decides}
use Rattle.hv_model.specs.declared.lexeme.Keyword.{Keyword}
use Rattle.hv_model.specs.declared.lexeme.Keyword.TheVariants as word
use Rattle.hv_model.specs.declared.lexeme.Symbol.{Symbol}
use Rattle.hv_model.specs.declared.lexeme.Symbol.TheVariants as symbol
use Rattle.hv_model.specs.Lexemes.{keyword_spelling, keyword_of, symbol_spelling, symbol_of, all_symbols}

pub keyword_spelled : (w : Keyword) → keyword_of (keyword_spelling w) ≡ Some w
keyword_spelled word.And = refl
keyword_spelled word.As = refl
keyword_spelled word.Asc = refl
keyword_spelled word.Barrier = refl
keyword_spelled word.By = refl
keyword_spelled word.Chunk = refl
keyword_spelled word.Chunks = refl
keyword_spelled word.Count = refl
keyword_spelled word.Create = refl
keyword_spelled word.Desc = refl
keyword_spelled word.From = refl
keyword_spelled word.Group = refl
keyword_spelled word.Import = refl
keyword_spelled word.Index = refl
keyword_spelled word.Int = refl
keyword_spelled word.Into = refl
keyword_spelled word.Is = refl
keyword_spelled word.Limit = refl
keyword_spelled word.Lines = refl
keyword_spelled word.Max = refl
keyword_spelled word.Merge = refl
keyword_spelled word.Min = refl
keyword_spelled word.Not = refl
keyword_spelled word.Null = refl
keyword_spelled word.Of = refl
keyword_spelled word.Or = refl
keyword_spelled word.Order = refl
keyword_spelled word.Purge = refl
keyword_spelled word.Range = refl
keyword_spelled word.Select = refl
keyword_spelled word.Session = refl
keyword_spelled word.Sum = refl
keyword_spelled word.Summary = refl
keyword_spelled word.Table = refl
keyword_spelled word.Text = refl
keyword_spelled word.Where = refl

symbol_spelled : (m : Symbol) → symbol_of (symbol_spelling m) ≡ Some m
symbol_spelled symbol.Open = refl
symbol_spelled symbol.Close = refl
symbol_spelled symbol.Comma = refl
symbol_spelled symbol.Dot = refl
symbol_spelled symbol.Star = refl
symbol_spelled symbol.Minus = refl
symbol_spelled symbol.Equal = refl
symbol_spelled symbol.Unequal = refl
symbol_spelled symbol.NotEqual = refl
symbol_spelled symbol.Less = refl
symbol_spelled symbol.AtMost = refl
symbol_spelled symbol.Greater = refl
symbol_spelled symbol.AtLeast = refl

-- what is found passes the test
found_passes : {X : Type 0} (test : X → Bool) (xs : List X) (x : X) → find test xs ≡ Some x → test x ≡ true
found_passes test [] x e = absurd cc
found_passes test (y ∷ ys) x e = elim (cases_Bool (test y)) [
  | inl is ↦
      let here : Some y ≡ Some x = sym (cond-true (test y) (Some y) (find test ys) is) ∙ e in
      let same : y ≡ x = cc in
      ap test (sym same) ∙ is
  | inr fails ↦ found_passes test ys x (sym (cond-false (test y) (Some y) (find test ys) fails) ∙ e)
]

pub symbol_written : (m : Symbol) (bytes : List ℕ) → (symbol_of bytes ≡ Some m) ↔ (bytes ≡ symbol_spelling m)
symbol_written m bytes =
    (λ e. (bytes_eq-Decides bytes (symbol_spelling m)).0 (found_passes (λ x. pointwise nat_eq bytes (symbol_spelling x)) all_symbols m e), λ e. ap symbol_of e ∙ symbol_spelled m)
