-- The tokens of a text, token after token.
use Rattle.std.proofs.Common.{◌≡◌, ℕ, ◌+◌, ◌-◌, ◌<◌, ◌≤◌, zero, suc, true, false, List, [], ◌∷◌, ◌++◌, length, drop, get_or, ap, sym, ◌∙◌, subst, append_assoc, add-zero, arith, drop-drop, length-drop}
use Rattle.std.proofs.lemmas.Bool.{cond-true, cond-false}
use Rattle.std.proofs.lemmas.List.{drop_more}
use Rattle.hv_model.specs.declared.lexeme.Token.{Token}
use Rattle.hv_model.specs.Token.{is_white}
use Rattle.hv_model.specs.Lexemes.{token_length, token_at, tokens_from}
use Rattle.hv_sql.proofs.LexingLengths.{token_length_some}

-- the bytes of the token before are passed over
pub passed_over : (passed at : ℕ) (xs : List ℕ) → passed ≤ length xs → tokens_from at passed xs ≡ tokens_from (at + passed) 0 (drop passed xs)
passed_over zero at xs le = ap (λ (n : ℕ). tokens_from n 0 xs) (sym (add-zero at))
passed_over (suc passed) at [] le = absurd (omega arith)
passed_over (suc passed) at (x ∷ xs) le =
    let e : at + 1 + passed ≡ at + suc passed = omega arith in
    passed_over passed (at + 1) xs (omega arith) ∙ ap (λ (n : ℕ). tokens_from n 0 (drop passed xs)) e

pub white_step : (text : List ℕ) (at : ℕ) → at < length text → is_white (get_or text at 0) ≡ true → tokens_from at 0 (drop at text) ≡ tokens_from (at + 1) 0 (drop (at + 1) text)
white_step text at lt white = ap (tokens_from at 0) (drop_more text at 0 lt) ∙ cond-true (is_white (get_or text at 0)) _ _ white

token_first : (b : ℕ) (bs : List ℕ) (at : ℕ) → is_white b ≡ false → token_length (b ∷ bs) ≤ length (b ∷ bs)
    → tokens_from at 0 (b ∷ bs) ≡ token_at at (b ∷ bs) ∷ tokens_from (at + token_length (b ∷ bs)) 0 (drop (token_length (b ∷ bs) - 1) bs)
token_first b bs at dark within =
    let n = token_length (b ∷ bs) in
    let some = token_length_some (b ∷ bs) in
    let e : at + 1 + (n - 1) ≡ at + n = omega (arith, some) in
    cond-false (is_white b) _ _ dark
    ∙ ap (λ (ts : List Token). token_at at (b ∷ bs) ∷ ts) (passed_over (n - 1) (at + 1) bs (omega (arith, some)) ∙ ap (λ (k : ℕ). tokens_from k 0 (drop (n - 1) bs)) e)

drop_behind : (text : List ℕ) (at n : ℕ) → 0 < n → drop (n - 1) (drop (at + 1) text) ≡ drop (at + n) text
drop_behind text at n some =
    let e : at + 1 + (n - 1) ≡ at + n = omega arith in
    drop-drop (n - 1) (at + 1) text ∙ ap (λ (k : ℕ). drop k text) e

pub token_step : (text : List ℕ) (at : ℕ) → at < length text → is_white (get_or text at 0) ≡ false → token_length (drop at text) ≤ length (drop at text)
    → tokens_from at 0 (drop at text) ≡ token_at at (drop at text) ∷ tokens_from (at + token_length (drop at text)) 0 (drop (at + token_length (drop at text)) text)
token_step text at lt dark within =
    let P : List ℕ → Type 0 = λ xs. token_length xs ≤ length xs → tokens_from at 0 xs ≡ token_at at xs ∷ tokens_from (at + token_length xs) 0 (drop (at + token_length xs) text) in
    let e = drop_more text at 0 lt in
    let first = λ (w : token_length (get_or text at 0 ∷ drop (at + 1) text) ≤ length (get_or text at 0 ∷ drop (at + 1) text)).
    token_first (get_or text at 0) (drop (at + 1) text) at dark w
    ∙ ap (λ (xs : List ℕ). token_at at (get_or text at 0 ∷ drop (at + 1) text) ∷ tokens_from (at + token_length (get_or text at 0 ∷ drop (at + 1) text)) 0 xs)
    (drop_behind text at (token_length (get_or text at 0 ∷ drop (at + 1) text)) (token_length_some (get_or text at 0 ∷ drop (at + 1) text))) in
    subst P (sym e) first within

-- where a token stands it is the first, and those behind it follow
pub token_behind : (text : List ℕ) (at : ℕ) (t : Token) → at < length text → is_white (get_or text at 0) ≡ false → t ≡ token_at at (drop at text) → t.to ≤ length text
    → tokens_from at 0 (drop at text) ≡ t ∷ tokens_from t.to 0 (drop t.to text)
token_behind text at t lt dark is within =
    let rest = drop at text in
    let to : t.to ≡ at + token_length rest = ap (λ (x : Token). x.to) is in
    let long : length rest ≡ length text - at = length-drop at text in
    let step = token_step text at lt dark (omega arith) in
    step ∙ sym (ap (λ (x : Token). x ∷ tokens_from t.to 0 (drop t.to text)) is ∙ ap (λ (k : ℕ). token_at at rest ∷ tokens_from k 0 (drop k text)) to)

-- a token behind those so far
pub token_more : (text : List ℕ) (tokens all more : List Token) (at : ℕ) (t : Token) → at < length text → is_white (get_or text at 0) ≡ false → t ≡ token_at at (drop at text)
    → t.to ≤ length text → tokens ++ tokens_from at 0 (drop at text) ≡ all → more ≡ tokens ++ t ∷ [] → more ++ tokens_from t.to 0 (drop t.to text) ≡ all
token_more text tokens all more at t lt dark is within so_far pushed =
    let behind : List Token = tokens_from t.to 0 (drop t.to text) in
    let same : t ∷ behind ≡ tokens_from at 0 (drop at text) = sym (token_behind text at t lt dark is within) in
    ap (λ (xs : List Token). xs ++ behind) pushed ∙ append_assoc tokens (t ∷ []) behind ∙ ap (λ (xs : List Token). tokens ++ xs) same ∙ so_far
