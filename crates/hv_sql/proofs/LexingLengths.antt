-- How long the longest token is, by the first byte.
use Rattle.std.proofs.Common.{◌≡◌, ◌⊎◌, ℕ, ◌+◌, ◌<◌, ◌≤◌, zero, suc, Bool, true, false, max, List, [], ◌∷◌, length, take, drop, get_or, refl, ap, sym, ◌∙◌, subst, inl, inr, one-add, add-one, arith, length-take-le}
use Rattle.std.specs.List.{list_all, prefix_len}
use Rattle.std.proofs.lemmas.Bool.{cases_eq, cases_lt, cases_Bool, cond-true, cond-false, cond_both}
use Rattle.std.proofs.lemmas.List.Sums.{prefix_len-le-length}
use Rattle.hv_model.specs.Token.{is_digit, begins_name, is_name_byte}
use Rattle.hv_model.specs.Lexemes.{is_symbol, closes, is_lexeme, longest, token_length}
use Rattle.hv_sql.proofs.LexingClasses.{lexeme-name, lexeme-digit, lexeme-quote, lexeme-other, symbol_short}

-- the longest is the one that no longer one is beside
longest_is : (k : ℕ) (xs : List ℕ) (n : ℕ) → 0 < n → n ≤ k → (n ≡ 1) ⊎ (is_lexeme (take n xs) ≡ true)
    → ((m : ℕ) → n < m → m ≤ k → is_lexeme (take m xs) ≡ false) → longest k xs ≡ n
longest_is zero xs n some le is past = absurd (omega arith)
longest_is (suc k) xs n some le is past = elim (cases_eq n (suc k)) [
  | inl e ↦ elim is [
    | inl one ↦
        let none : k ≡ 0 = omega arith in
        cond_both (is_lexeme (take (suc k) xs)) (suc k) (longest k xs) (λ x. x ≡ n) (λ _. sym e) (λ _. ap (λ (j : ℕ). longest j xs) none ∙ sym one)
    | inr lex ↦
        let here : is_lexeme (take (suc k) xs) ≡ true = subst (λ (x : ℕ). is_lexeme (take x xs) ≡ true) e lex in
        cond-true _ _ _ here ∙ sym e
  ]
  | inr ne ↦ cond-false _ _ _ (past (suc k) (omega arith) (omega arith)) ∙ longest_is k xs n some (omega arith) is (λ m lt le_m. past m lt (omega arith))
]

pub token_length_is : (xs : List ℕ) (n : ℕ) → 0 < n → n ≤ length xs → (n ≡ 1) ⊎ (is_lexeme (take n xs) ≡ true)
    → ((m : ℕ) → n < m → m ≤ length xs → is_lexeme (take m xs) ≡ false) → token_length xs ≡ n
unfolding token_length
token_length_is xs n some le is past = longest_is (length xs) xs n some le is past

-- the bytes up to the first that fails all pass, and more don't
all_prefix : (p : ℕ → Bool) (xs : List ℕ) → list_all p (take (prefix_len p xs) xs) ≡ true
all_prefix p [] = refl
all_prefix p (x ∷ xs) = elim (cases_Bool (p x)) [
  | inl e ↦ rw (e, one-add) (rw e (all_prefix p xs))
  | inr e ↦ rw e refl
]

all_past : (p : ℕ → Bool) (xs : List ℕ) (m : ℕ) → prefix_len p xs < m → m ≤ length xs → list_all p (take m xs) ≡ false
all_past p xs zero lt le = absurd (omega arith)
all_past p [] (suc m) lt le = absurd (omega arith)
all_past p (x ∷ xs) (suc m) lt le = elim (cases_Bool (p x)) [
  | inl e ↦
      let longer : prefix_len p (x ∷ xs) ≡ 1 + prefix_len p xs = rw e refl in
      rw e (all_past p xs m (omega arith) (omega arith))
  | inr e ↦ rw e refl
]

-- a token that goes on with bytes that pass a test
run_length : (p : ℕ → Bool) (b : ℕ) (bs : List ℕ) → p b ≡ true → ((cs : List ℕ) → is_lexeme (b ∷ cs) ≡ list_all p cs) → token_length (b ∷ bs) ≡ prefix_len p (b ∷ bs)
run_length p b bs first goes =
    let n = prefix_len p bs in
    let long : prefix_len p (b ∷ bs) ≡ suc n = rw (first, one-add) refl in
    let within = prefix_len-le-length p bs in
    let past : (m : ℕ) → suc n < m → m ≤ suc (length bs) → is_lexeme (take m (b ∷ bs)) ≡ false = λ m. elim m as (λ m. suc n < m → m ≤ suc (length bs) → is_lexeme (take m (b ∷ bs)) ≡ false) [
      | zero ↦ λ lt le. absurd (omega arith)
      | suc j ↦ λ lt le. goes (take j bs) ∙ all_past p bs j (omega arith) (omega arith)
    ] in
    token_length_is (b ∷ bs) (suc n) (omega arith) (omega arith) (inr (goes (take n bs) ∙ all_prefix p bs)) past ∙ sym long

pub name_length : (xs : List ℕ) (d : ℕ) → 0 < length xs → begins_name (get_or xs 0 d) ≡ true → token_length xs ≡ prefix_len is_name_byte xs
name_length [] d some begins = absurd (omega arith)
name_length (b ∷ bs) d some begins =
    let name : is_name_byte b ≡ true = rw begins refl in
    run_length is_name_byte b bs name (λ cs. lexeme-name b cs begins)

pub number_length : (xs : List ℕ) (d : ℕ) → 0 < length xs → is_digit (get_or xs 0 d) ≡ true → token_length xs ≡ prefix_len is_digit xs
number_length [] d some digit = absurd (omega arith)
number_length (b ∷ bs) d some digit = run_length is_digit b bs digit (λ cs. lexeme-digit b cs digit)

quoted_past : (bs : List ℕ) (n : ℕ) → ((m : ℕ) → n < m → m ≤ length bs → closes false (take m bs) ≡ false)
    → (m : ℕ) → suc n < m → m ≤ suc (length bs) → is_lexeme (take m (39 ∷ bs)) ≡ false
quoted_past bs n past zero lt le = absurd (omega arith)
quoted_past bs n past (suc m) lt le = lexeme-quote (take m bs) ∙ past m (omega arith) (omega arith)

quoted_here : (bs : List ℕ) (n : ℕ) → (0 < n → closes false (take n bs) ≡ true) → (suc n ≡ 1) ⊎ (is_lexeme (take (suc n) (39 ∷ bs)) ≡ true)
quoted_here bs zero is = inl refl
quoted_here bs (suc n) is = inr (lexeme-quote (take (suc n) bs) ∙ is (omega arith))

-- a text is as long as it has bytes up to its closing quote
pub quoted_length : (xs behind : List ℕ) (d n : ℕ) → 0 < length xs → get_or xs 0 d ≡ 39 → behind ≡ drop 1 xs → n ≤ length behind → (0 < n → closes false (take n behind) ≡ true)
    → ((m : ℕ) → n < m → m ≤ length behind → closes false (take m behind) ≡ false) → token_length xs ≡ n + 1
quoted_length [] behind d n some quote e le is past = absurd (omega arith)
quoted_length (b ∷ bs) behind d n some quote e le is past =
    let is_bs : 0 < n → closes false (take n bs) ≡ true = subst (λ (x : List ℕ). 0 < n → closes false (take n x) ≡ true) e is in
    let past_bs : (m : ℕ) → n < m → m ≤ length bs → closes false (take m bs) ≡ false = subst (λ (x : List ℕ). (m : ℕ) → n < m → m ≤ length x → closes false (take m x) ≡ false) e past in
    let le_bs : n ≤ length bs = subst (λ (x : List ℕ). n ≤ length x) e le in
    ap (λ (x : ℕ). token_length (x ∷ bs)) quote ∙ token_length_is (39 ∷ bs) (suc n) (omega arith) (omega arith) (quoted_here bs n is_bs) (quoted_past bs n past_bs) ∙ sym (add-one n)

-- a symbol
symbol_past : (b : ℕ) (bs : List ℕ) (n : ℕ) → ((cs : List ℕ) → is_lexeme (b ∷ cs) ≡ is_symbol (b ∷ cs)) → (n ≡ 1) ⊎ (n ≡ 2) → (n ≡ 1 → 2 ≤ suc (length bs) → is_symbol (take 2 (b ∷ bs)) ≡ false)
    → (m : ℕ) → n < m → m ≤ suc (length bs) → is_lexeme (take m (b ∷ bs)) ≡ false
symbol_past b bs n goes few two zero lt le = absurd (omega arith)
symbol_past b bs n goes few two (suc m) lt le = elim (cases_lt 2 (suc m)) [
  | inl long ↦
      let long_bs : length (take m bs) ≡ m = length-take-le m bs (omega arith) in
      goes (take m bs) ∙ symbol_short (b ∷ take m bs) (omega (arith, long_bs))
  | inr short ↦ elim few [
    | inl one ↦
        let e : 2 ≡ suc m = omega arith in
        goes (take m bs) ∙ subst (λ (x : ℕ). is_symbol (take x (b ∷ bs)) ≡ false) e (two one (omega arith))
    | inr n_two ↦ absurd (omega arith)
  ]
]

symbol_here : (b : ℕ) (bs : List ℕ) (n : ℕ) → ((cs : List ℕ) → is_lexeme (b ∷ cs) ≡ is_symbol (b ∷ cs)) → (n ≡ 1) ⊎ ((n ≡ 2) × (is_symbol (take 2 (b ∷ bs)) ≡ true)) → (n ≡ 1) ⊎ (is_lexeme (take n (b ∷ bs)) ≡ true)
symbol_here b bs n goes (inl one) = inl one
symbol_here b bs n goes (inr two) = inr (subst (λ (x : ℕ). is_lexeme (take x (b ∷ bs)) ≡ true) (sym two.0) (goes (take 1 bs) ∙ two.1))

pub symbol_length : (xs : List ℕ) (d n : ℕ) → 0 < length xs → begins_name (get_or xs 0 d) ≡ false → is_digit (get_or xs 0 d) ≡ false → (get_or xs 0 d ≡ 39 → ⊥)
    → n ≤ length xs → (n ≡ 1) ⊎ ((n ≡ 2) × (is_symbol (take 2 xs) ≡ true)) → (n ≡ 1 → 2 ≤ length xs → is_symbol (take 2 xs) ≡ false) → token_length xs ≡ n
symbol_length [] d n some begins digit quote le is two = absurd (omega arith)
symbol_length (b ∷ bs) d n some begins digit quote le is two =
    let goes = λ (cs : List ℕ). lexeme-other b cs begins digit quote in
    let few : (n ≡ 1) ⊎ (n ≡ 2) = elim is [ inl one ↦ inl one | inr both ↦ inr both.0 ] in
    let pos : 0 < n = elim few [ inl one ↦ omega arith | inr n_two ↦ omega arith ] in
    token_length_is (b ∷ bs) n pos le (symbol_here b bs n goes is) (symbol_past b bs n goes few two)

-- a token has a byte or more, and no more than there are
longest_some : (k : ℕ) (xs : List ℕ) → 0 < longest k xs
longest_some zero xs = omega arith
longest_some (suc k) xs = cond_both (is_lexeme (take (suc k) xs)) (suc k) (longest k xs) (λ x. 0 < x) (λ _. omega arith) (λ _. longest_some k xs)

longest_within : (k : ℕ) (xs : List ℕ) → longest k xs ≤ max 1 k
longest_within zero xs = omega arith
longest_within (suc k) xs =
    let less = longest_within k xs in
    cond_both (is_lexeme (take (suc k) xs)) (suc k) (longest k xs) (λ x. x ≤ max 1 (suc k)) (λ _. omega arith) (λ _. omega (arith, less))

pub token_length_some : (xs : List ℕ) → 0 < token_length xs
unfolding token_length
token_length_some xs = longest_some (length xs) xs

pub token_length_within : (xs : List ℕ) → 0 < length xs → token_length xs ≤ length xs
unfolding token_length
token_length_within xs some = let within = longest_within (length xs) xs in omega (arith, within)
