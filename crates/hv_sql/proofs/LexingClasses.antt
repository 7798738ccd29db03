-- What the first byte of bytes says of the token that they may be.
use Rattle.std.proofs.Common.{◌≡◌, ℕ, ◌<◌, suc, Bool, true, false, cond, not, ◌||◌, ◌&&◌, eqb, nat_le, nat_eq, List, [], ◌∷◌, length, refl, ap, ◌∙◌, inl, inr, is_some, Some, arith, leb-true, le-leb, ne_eqb}
use Rattle.std.specs.List.{list_any, list_all, find}
use Rattle.std.specs.Cmp.Lexicographic.{pointwise}
use Rattle.std.proofs.lemmas.Bool.{and_parts, or_cases, false_from_ne_true, false≢true}
use Rattle.std.proofs.lemmas.Bool.Decides.{nat_tests}
use Rattle.std.proofs.lemmas.Slice.Eq.{bytes_eq-Decides}
use Rattle.hv_model.specs.Token.{is_digit, begins_name, is_name_byte, is_keyword, is_number, is_word}
use Rattle.hv_model.specs.Lexemes.{keyword_spelling, all_keywords, symbol_spelling, all_symbols, is_symbol, is_run, is_quoted, closes, is_lexeme}

-- `find` finds where `any` holds
find_any : {X : Type 0} (test : X → Bool) (xs : List X) → is_some (find test xs) ≡ list_any test xs
find_any test [] = refl
find_any test (x ∷ xs) = elim (test x) as (λ v. is_some (cond v (Some x) (find test xs)) ≡ (v || list_any test xs)) [ true ↦ refl | false ↦ find_any test xs ]

pub keyword_found : (bytes : List ℕ) → is_some (find (λ w. is_word (keyword_spelling w) bytes) all_keywords) ≡ is_keyword bytes
keyword_found bytes = find_any (λ w. is_word (keyword_spelling w) bytes) all_keywords

pub symbol_found : (bytes : List ℕ) → is_some (find (λ m. pointwise nat_eq bytes (symbol_spelling m)) all_symbols) ≡ is_symbol bytes
unfolding is_symbol
symbol_found bytes = find_any (λ m. pointwise nat_eq bytes (symbol_spelling m)) all_symbols

-- one of a list that passes, with what holds of them all
pub any_with : {X : Type 0} (test good : X → Bool) (xs : List X) → list_all good xs ≡ true → list_any test xs ≡ true → (x : X) × (test x ≡ true) × (good x ≡ true)
any_with test good [] all any = absurd (false≢true any)
any_with test good (x ∷ xs) all any =
    let parts = and_parts (good x) (list_all good xs) all in
    elim (or_cases (test x) (list_any test xs) any) [ inl here ↦ (x, here, parts.0) | inr later ↦ any_with test good xs parts.1 later ]

-- no symbol begins as a word, a number or a text does, and none is longer than two bytes
begins_plain : List ℕ → Bool
begins_plain [] = false
begins_plain (b ∷ _) = not (is_name_byte b) && not (eqb b 39)

is_plain : List ℕ → Bool
is_plain bytes = begins_plain bytes && nat_le (length bytes) 2

symbols_plain : list_all (λ m. is_plain (symbol_spelling m)) all_symbols ≡ true
unfolding is_plain begins_plain
symbols_plain = refl

symbol_plain : (bytes : List ℕ) → is_symbol bytes ≡ true → is_plain bytes ≡ true
unfolding is_symbol
symbol_plain bytes is =
    let found = any_with (λ m. pointwise nat_eq bytes (symbol_spelling m)) (λ m. is_plain (symbol_spelling m)) all_symbols symbols_plain is in
    let same : bytes ≡ symbol_spelling found.0 = (bytes_eq-Decides bytes (symbol_spelling found.0)).0 found.1 in
    ap is_plain same ∙ found.2

pub symbol_short : (bytes : List ℕ) → 2 < length bytes → is_symbol bytes ≡ false
unfolding is_plain
symbol_short bytes long = false_from_ne_true (is_symbol bytes) (λ is.
    let parts = and_parts (begins_plain bytes) (nat_le (length bytes) 2) (symbol_plain bytes is) in
    let short = leb-true (length bytes) 2 parts.1 in
    omega arith)

symbol_none_of_name : (b : ℕ) (cs : List ℕ) → is_name_byte b ≡ true → is_symbol (b ∷ cs) ≡ false
unfolding is_plain begins_plain
symbol_none_of_name b cs name = false_from_ne_true (is_symbol (b ∷ cs)) (λ is.
    let plain = and_parts (begins_plain (b ∷ cs)) (nat_le (length (b ∷ cs)) 2) (symbol_plain (b ∷ cs) is) in
    grind (arith, nat_tests))

symbol_none_of_quote : (cs : List ℕ) → is_symbol (39 ∷ cs) ≡ false
unfolding is_plain begins_plain
symbol_none_of_quote cs = false_from_ne_true (is_symbol (39 ∷ cs)) (λ is.
    let plain = and_parts (begins_plain (39 ∷ cs)) (nat_le (length (39 ∷ cs)) 2) (symbol_plain (39 ∷ cs) is) in
    false≢true plain.0)

-- one of four tests where the others fail
first_of_four : (r n q m : Bool) → n ≡ false → q ≡ false → m ≡ false → (r || n || q || m) ≡ r
first_of_four true n q m hn hq hm = refl
first_of_four false n q m hn hq hm = rw (hn, hq, hm) refl

second_of_four : (r n q m : Bool) → r ≡ false → q ≡ false → m ≡ false → (r || n || q || m) ≡ n
second_of_four r true q m hr hq hm = rw hr refl
second_of_four r false q m hr hq hm = rw (hr, hq, hm) refl

third_of_four : (r n q m : Bool) → r ≡ false → n ≡ false → m ≡ false → (r || n || q || m) ≡ q
third_of_four r n true m hr hn hm = rw (hr, hn) refl
third_of_four r n false m hr hn hm = rw (hr, hn, hm) refl

fourth_of_four : (r n q m : Bool) → r ≡ false → n ≡ false → q ≡ false → (r || n || q || m) ≡ m
fourth_of_four r n q m hr hn hq = rw (hr, hn, hq) refl

-- what each test comes to at a list that begins with a byte
run_no : (b : ℕ) (cs : List ℕ) → begins_name b ≡ false → is_run (b ∷ cs) ≡ false
unfolding is_run
run_no b cs e = rw e refl

run_yes : (b : ℕ) (cs : List ℕ) → begins_name b ≡ true → is_run (b ∷ cs) ≡ list_all is_name_byte cs
unfolding is_run
run_yes b cs e = rw e refl

number_no : (b : ℕ) (cs : List ℕ) → is_digit b ≡ false → is_number (b ∷ cs) ≡ false
number_no b cs e = rw (e, le-leb 1 (suc (length cs)) (omega arith)) refl

number_yes : (b : ℕ) (cs : List ℕ) → is_digit b ≡ true → is_number (b ∷ cs) ≡ list_all is_digit cs
number_yes b cs e = rw (e, le-leb 1 (suc (length cs)) (omega arith)) refl

quoted_no : (b : ℕ) (cs : List ℕ) → (b ≡ 39 → ⊥) → is_quoted (b ∷ cs) ≡ false
quoted_no b cs ne = rw (ne_eqb b 39 ne) refl

-- behind a letter or `_` the token goes on with bytes of a name
pub lexeme-name : (b : ℕ) (cs : List ℕ) → begins_name b ≡ true → is_lexeme (b ∷ cs) ≡ list_all is_name_byte cs
unfolding is_lexeme
lexeme-name b cs begins =
    let name : is_name_byte b ≡ true = grind (arith, nat_tests) in
    let digit : is_digit b ≡ false = grind (arith, nat_tests) in
    let quote : b ≡ 39 → ⊥ = λ e. grind (arith, nat_tests) in
    first_of_four _ _ _ _ (number_no b cs digit) (quoted_no b cs quote) (symbol_none_of_name b cs name) ∙ run_yes b cs begins

-- behind a digit it goes on with digits
pub lexeme-digit : (b : ℕ) (cs : List ℕ) → is_digit b ≡ true → is_lexeme (b ∷ cs) ≡ list_all is_digit cs
unfolding is_lexeme
lexeme-digit b cs digit =
    let name : is_name_byte b ≡ true = grind (arith, nat_tests) in
    let begins : begins_name b ≡ false = grind (arith, nat_tests) in
    let quote : b ≡ 39 → ⊥ = λ e. grind (arith, nat_tests) in
    second_of_four _ _ _ _ (run_no b cs begins) (quoted_no b cs quote) (symbol_none_of_name b cs name) ∙ number_yes b cs digit

-- behind a quote it goes on up to the closing one
pub lexeme-quote : (cs : List ℕ) → is_lexeme (39 ∷ cs) ≡ closes false cs
unfolding is_lexeme
lexeme-quote cs = third_of_four _ _ _ _ (run_no 39 cs refl) (number_no 39 cs refl) (symbol_none_of_quote cs)

-- behind every other byte it is a symbol
pub lexeme-other : (b : ℕ) (cs : List ℕ) → begins_name b ≡ false → is_digit b ≡ false → (b ≡ 39 → ⊥) → is_lexeme (b ∷ cs) ≡ is_symbol (b ∷ cs)
unfolding is_lexeme
lexeme-other b cs begins digit ne = fourth_of_four _ _ _ _ (run_no b cs begins) (number_no b cs digit) (quoted_no b cs ne)

-- a run is nothing else
pub run_alone : (bytes : List ℕ) → is_run bytes ≡ true → (is_number bytes ≡ false) × (is_quoted bytes ≡ false) × (is_symbol bytes ≡ false)
unfolding is_run
run_alone [] run = absurd (false≢true run)
run_alone (b ∷ cs) run =
    let begins = (and_parts (begins_name b) (list_all is_name_byte (b ∷ cs)) run).0 in
    let name : is_name_byte b ≡ true = rw begins refl in
    let digit : is_digit b ≡ false = grind (arith, nat_tests) in
    (number_no b cs digit, quoted_no b cs (λ e. grind (arith, nat_tests)), symbol_none_of_name b cs name)
