-- Bytes that begin with a space and have no quote leave the token before them as it is.
use Rattle.std.proofs.Common.{◌≡◌, ◌⊎◌, ℕ, ◌+◌, ◌-◌, ◌<◌, ◌≤◌, zero, suc, Bool, true, false, cond, not, eqb, List, [], ◌∷◌, ◌++◌, length, take, refl, ap, sym, ◌∙◌, inl, inr, arith}
use Rattle.std.specs.List.{list_all}
use Rattle.std.proofs.lemmas.Bool.{and_parts, and_right, not-true, cases_eq, cases_lt, cases_Bool, cond-false, cond_both, false_from_ne_true, false≢true}
use Rattle.std.proofs.lemmas.List.{take-append-le, length-append}
use Rattle.std.proofs.lemmas.Slice.Eq.{bytes_eq-Decides}
use Rattle.std.proofs.Math.Seq.{take-append-add}
use Rattle.std.specs.Prelude.{nat_eq}
use Rattle.std.specs.Cmp.Lexicographic.{pointwise}
use Rattle.hv_model.specs.declared.lexeme.Token.{Token}
use Rattle.hv_model.specs.Token.{is_digit, begins_name, is_name_byte}
use Rattle.hv_model.specs.Lexemes.{symbol_spelling, all_symbols, is_symbol, is_lexeme, closes, sort_of, token_length, token_at}
use Rattle.hv_sql.proofs.LexingClasses.{any_with, lexeme-name, lexeme-digit, lexeme-quote, lexeme-other}
use Rattle.hv_sql.proofs.LexingLengths.{token_length_is}
use Rattle.hv_sql.proofs.LexingLaws.{is_longest}

-- whether none of the bytes is a quote
abbrev pub quoteless : List ℕ → Bool
quoteless bs = list_all (λ b. not (eqb b 39)) bs

-- no bytes, or a space and bytes of which none is a quote
abbrev pub Apart : List ℕ → Type 0
Apart [] = Unit {0}
Apart (b ∷ bs) = (b ≡ 32) × (quoteless bs ≡ true)

-- bytes do not all pass where one between them fails
all_stops : (p : ℕ → Bool) (xs ys : List ℕ) (y : ℕ) → p y ≡ false → list_all p (xs ++ y ∷ ys) ≡ false
all_stops p [] ys y e = rw e refl
all_stops p (x ∷ xs) ys y e = and_right (p x) (list_all p (xs ++ y ∷ ys)) (all_stops p xs ys y e)

pub all_take : (p : ℕ → Bool) (n : ℕ) (xs : List ℕ) → list_all p xs ≡ true → list_all p (take n xs) ≡ true
all_take p zero xs h = refl
all_take p (suc n) [] h = refl
all_take p (suc n) (x ∷ xs) h =
    let parts = and_parts (p x) (list_all p xs) h in
    rw parts.0 (all_take p n xs parts.1)

-- without a quote nothing is closed
closes_none : (bs : List ℕ) → quoteless bs ≡ true → closes false bs ≡ false
closes_none [] h = refl
closes_none (b ∷ bs) h =
    let parts = and_parts (not (eqb b 39)) (quoteless bs) h in
    cond-false (eqb b 39) (closes true bs) (closes false bs) (not-true (eqb b 39) parts.0) ∙ closes_none bs parts.1

stops : (p x : Bool) → x ≡ false → cond p false x ≡ false
stops true x e = refl
stops false x e = e

-- nor behind a space
closes_past : (p : Bool) (xs bs : List ℕ) → quoteless bs ≡ true → closes p (xs ++ 32 ∷ bs) ≡ false
closes_past p [] bs h = stops p (closes false bs) (closes_none bs h)
closes_past p (x ∷ xs) bs h =
    cond_both (eqb x 39) (closes (not p) (xs ++ 32 ∷ bs)) (cond p false (closes false (xs ++ 32 ∷ bs))) (λ z. z ≡ false)
    (λ _. closes_past (not p) xs bs h)
    (λ _. stops p (closes false (xs ++ 32 ∷ bs)) (closes_past false xs bs h))

-- no symbol has a space
spaceless : ℕ → Bool
spaceless b = not (eqb b 32)

symbols_spaceless : list_all (λ m. list_all spaceless (symbol_spelling m)) all_symbols ≡ true
unfolding spaceless
symbols_spaceless = refl

space_fails : spaceless 32 ≡ false
unfolding spaceless
space_fails = refl

symbol_spaceless : (bytes : List ℕ) → is_symbol bytes ≡ true → list_all spaceless bytes ≡ true
unfolding is_symbol
symbol_spaceless bytes is =
    let found = any_with (λ m. pointwise nat_eq bytes (symbol_spelling m)) (λ m. list_all spaceless (symbol_spelling m)) all_symbols symbols_spaceless is in
    let same : bytes ≡ symbol_spelling found.0 = (bytes_eq-Decides bytes (symbol_spelling found.0)).0 found.1 in
    ap (list_all spaceless) same ∙ found.2

symbol_past : (xs bs : List ℕ) → is_symbol (xs ++ 32 ∷ bs) ≡ false
symbol_past xs bs = false_from_ne_true (is_symbol (xs ++ 32 ∷ bs)) (λ is.
    false≢true (sym (all_stops spaceless xs bs 32 space_fails) ∙ symbol_spaceless (xs ++ 32 ∷ bs) is))

-- nothing holds together beyond a space behind which no quote stands
lexeme_past : (b : ℕ) (u bs : List ℕ) → quoteless bs ≡ true → is_lexeme (b ∷ (u ++ 32 ∷ bs)) ≡ false
lexeme_past b u bs h = elim (cases_Bool (begins_name b)) [
  | inl begins ↦ lexeme-name b (u ++ 32 ∷ bs) begins ∙ all_stops is_name_byte u bs 32 refl
  | inr begins ↦ elim (cases_Bool (is_digit b)) [
    | inl digit ↦ lexeme-digit b (u ++ 32 ∷ bs) digit ∙ all_stops is_digit u bs 32 refl
    | inr digit ↦ elim (cases_eq b 39) [
      | inl e ↦ ap (λ (x : ℕ). is_lexeme (x ∷ (u ++ 32 ∷ bs))) e ∙ lexeme-quote (u ++ 32 ∷ bs) ∙ closes_past false u bs h
      | inr ne ↦ lexeme-other b (u ++ 32 ∷ bs) begins digit ne ∙ symbol_past (b ∷ u) bs
    ]
  ]
]

beyond : (b : ℕ) (u m : List ℕ) → Apart m → (k : ℕ) → suc (length u) < k → k ≤ suc (length (u ++ m)) → is_lexeme (take k (b ∷ (u ++ m))) ≡ false
beyond b u [] a k lt le = let long = length-append u [] in absurd (omega (arith, long))
beyond b u (c ∷ m) a k lt le =
    let j = k - suc (length u) - 1 in
    let e : k ≡ suc (length u) + suc j = omega arith in
    ap (λ (x : ℕ). is_lexeme (take x (b ∷ (u ++ c ∷ m)))) e
    ∙ ap is_lexeme (take-append-add (b ∷ u) (c ∷ m) (suc j))
    ∙ ap (λ (x : ℕ). is_lexeme (b ∷ (u ++ x ∷ take j m))) a.0
    ∙ lexeme_past b u (take j m) (all_take (λ x. not (eqb x 39)) j m a.1)

-- a token that ends within the first bytes is as long before other bytes
pub token_again : (u v m : List ℕ) → 0 < length u → token_length (u ++ v) ≤ length u → Apart m → token_length (u ++ m) ≡ token_length (u ++ v)
token_again [] v m some le a = absurd (omega arith)
token_again (b ∷ u) v m some le a =
    let n = token_length (b ∷ (u ++ v)) in
    let found = is_longest (b ∷ (u ++ v)) (omega arith) in
    let long_v = length-append u v in
    let long_m = length-append u m in
    let pos : 0 < n = found.some in
    let same : (k : ℕ) → k ≤ suc (length u) → take k (b ∷ (u ++ m)) ≡ take k (b ∷ (u ++ v)) =
    λ k lt. take-append-le k (b ∷ u) m lt ∙ sym (take-append-le k (b ∷ u) v lt) in
    let here : (n ≡ 1) ⊎ (is_lexeme (take n (b ∷ (u ++ m))) ≡ true) = elim found.whole [
      | inl is ↦ inr (ap is_lexeme (same n le) ∙ is)
      | inr one ↦ inl one.0
    ] in
    let past : (k : ℕ) → n < k → k ≤ suc (length (u ++ m)) → is_lexeme (take k (b ∷ (u ++ m))) ≡ false = λ k lt few. elim (cases_lt (suc (length u)) k) [
      | inl more ↦ beyond b u m a k more few
      | inr fewer ↦ ap is_lexeme (same k fewer) ∙ found.longer k lt (omega (arith, long_v))
    ] in
    token_length_is (b ∷ (u ++ m)) n pos (omega (arith, long_m)) here past

-- and is the same
pub token_kept : (at : ℕ) (u v m : List ℕ) → 0 < length u → token_length (u ++ v) ≤ length u → Apart m → token_at at (u ++ m) ≡ token_at at (u ++ v)
token_kept at u v m some le a =
    let n = token_length (u ++ v) in
    let of_length : ℕ → Token = λ k. record { sort = sort_of (take k (u ++ m)); from = at; to = at + k } in
    let of_bytes : List ℕ → Token = λ x. record { sort = sort_of x; from = at; to = at + n } in
    ap of_length (token_again u v m some le a) ∙ ap of_bytes (take-append-le n u m le ∙ sym (take-append-le n u v le))
