-- What sort of token bytes are.
use Rattle.std.proofs.Common.{◌≡◌, ℕ, Bool, true, false, ◌&&◌, cond, nat_le, nat_eq, ◌≤◌, ◌<◌, List, [], ◌∷◌, length, map, refl, sym, ◌∙◌, arith, le-leb}
use Rattle.std.specs.List.{list_all}
use Rattle.std.specs.Char.{to_ascii_lowercase}
use Rattle.std.specs.Cmp.Lexicographic.{pointwise}
use Rattle.std.proofs.lemmas.Bool.{and_parts, and_from, false≢true, false_from_ne_true, lt-leb, and_left, and_right}
use Rattle.std.proofs.lemmas.Bool.Decides.{nat_tests}
use Rattle.hv_model.specs.declared.lexeme.Sort.{Sort}
use Rattle.hv_model.specs.declared.lexeme.Sort.TheVariants.{Name, Keyword, Number, Text, Symbol, Other}
use Rattle.hv_model.specs.Token.{begins_name, is_name_byte, is_keyword, is_number, is_word}
use Rattle.hv_model.specs.Lexemes.{keyword_spelling, all_keywords, is_symbol, is_run, is_text, sort_of}
use Rattle.hv_sql.proofs.LexingClasses.{any_with, run_alone}

-- the choice of a sort by the tests
abbrev pub choice : Bool → Bool → Bool → Bool → Bool → Sort
choice keyword name number text symbol = cond keyword Keyword (cond name Name (cond number Number (cond text Text (cond symbol Symbol Other))))

pub sort_is : (bytes : List ℕ) (keyword name number text symbol : Bool) → is_keyword bytes ≡ keyword → (is_run bytes && nat_le (length bytes) 30) ≡ name → is_number bytes ≡ number
    → is_text bytes ≡ text → is_symbol bytes ≡ symbol → sort_of bytes ≡ choice keyword name number text symbol
unfolding sort_of
sort_is bytes keyword name number text symbol k w n t s = λ i. choice (k i) (w i) (n i) (t i) (s i)

is_capital : ℕ → Bool
is_capital b = nat_le 65 b && nat_le b 90

capitals : List ℕ → Bool
capitals [] = false
capitals (b ∷ bs) = is_capital b && list_all is_capital bs

keywords_capital : list_all (λ w. capitals (keyword_spelling w)) all_keywords ≡ true
unfolding capitals is_capital
keywords_capital = refl

letter_of_capital : (b c : ℕ) → nat_eq (to_ascii_lowercase b) (to_ascii_lowercase c) ≡ true → is_capital c ≡ true → begins_name b ≡ true
unfolding is_capital
letter_of_capital b c same cap = grind (arith, nat_tests)

name_of_letter : (b : ℕ) → begins_name b ≡ true → is_name_byte b ≡ true
name_of_letter b h = rw h refl

letters_of_capitals : (bs cs : List ℕ) → pointwise nat_eq (map to_ascii_lowercase bs) (map to_ascii_lowercase cs) ≡ true → list_all is_capital cs ≡ true → list_all is_name_byte bs ≡ true
letters_of_capitals [] cs same caps = refl
letters_of_capitals (b ∷ bs) [] same caps = absurd (false≢true same)
letters_of_capitals (b ∷ bs) (c ∷ cs) same caps =
    let s = and_parts (nat_eq (to_ascii_lowercase b) (to_ascii_lowercase c)) (pointwise nat_eq (map to_ascii_lowercase bs) (map to_ascii_lowercase cs)) same in
    let k = and_parts (is_capital c) (list_all is_capital cs) caps in
    and_from _ _ (name_of_letter b (letter_of_capital b c s.0 k.0)) (letters_of_capitals bs cs s.1 k.1)

run_of_capitals : (bs cs : List ℕ) → pointwise nat_eq (map to_ascii_lowercase bs) (map to_ascii_lowercase cs) ≡ true → capitals cs ≡ true → is_run bs ≡ true
unfolding capitals is_run
run_of_capitals bs [] same caps = absurd (false≢true caps)
run_of_capitals [] (c ∷ cs) same caps = absurd (false≢true same)
run_of_capitals (b ∷ bs) (c ∷ cs) same caps =
    let s = and_parts (nat_eq (to_ascii_lowercase b) (to_ascii_lowercase c)) (pointwise nat_eq (map to_ascii_lowercase bs) (map to_ascii_lowercase cs)) same in
    let k = and_parts (is_capital c) (list_all is_capital cs) caps in
    let begins = letter_of_capital b c s.0 k.0 in
    and_from _ _ begins (and_from _ _ (name_of_letter b begins) (letters_of_capitals bs cs s.1 k.1))

-- a keyword is a run
pub keyword_run : (bytes : List ℕ) → is_keyword bytes ≡ true → is_run bytes ≡ true
keyword_run bytes is =
    let found = any_with (λ w. is_word (keyword_spelling w) bytes) (λ w. capitals (keyword_spelling w)) all_keywords keywords_capital is in
    run_of_capitals bytes (keyword_spelling found.0) found.1 found.2

pub no_keyword : (bytes : List ℕ) → is_run bytes ≡ false → is_keyword bytes ≡ false
no_keyword bytes run = false_from_ne_true (is_keyword bytes) (λ is. false≢true (sym run ∙ keyword_run bytes is))

-- the sorts of runs
pub keyword_sort : (bytes : List ℕ) → is_keyword bytes ≡ true → Keyword ≡ sort_of bytes
keyword_sort bytes k = sym (sort_is bytes true _ _ _ _ k refl refl refl refl)

pub name_sort : (bytes : List ℕ) → is_keyword bytes ≡ false → is_run bytes ≡ true → length bytes ≤ 30 → Name ≡ sort_of bytes
name_sort bytes k run short = sym (sort_is bytes false true _ _ _ k (and_from _ _ run (le-leb (length bytes) 30 short)) refl refl refl)

pub long_sort : (bytes : List ℕ) → is_keyword bytes ≡ false → is_run bytes ≡ true → 30 < length bytes → Other ≡ sort_of bytes
long_sort bytes k run long =
    let alone = run_alone bytes run in
    sym (sort_is bytes false false false false false k (and_right _ _ (lt-leb (length bytes) 30 long)) alone.0 (and_left _ _ alone.1) alone.2)

-- the sorts of what is no run
pub number_sort : (bytes : List ℕ) → is_run bytes ≡ false → is_number bytes ≡ true → Number ≡ sort_of bytes
number_sort bytes run number = sym (sort_is bytes false false true _ _ (no_keyword bytes run) (and_left _ _ run) number refl refl)

pub text_sort : (bytes : List ℕ) → is_run bytes ≡ false → is_number bytes ≡ false → is_text bytes ≡ true → Text ≡ sort_of bytes
text_sort bytes run number text = sym (sort_is bytes false false false true _ (no_keyword bytes run) (and_left _ _ run) number text refl)

-- what is left is a symbol or nothing
pub symbol_sort : (bytes : List ℕ) → is_run bytes ≡ false → is_number bytes ≡ false → is_text bytes ≡ false → is_symbol bytes ≡ true → Symbol ≡ sort_of bytes
symbol_sort bytes run number text symbol = sym (sort_is bytes false false false false true (no_keyword bytes run) (and_left _ _ run) number text symbol)

pub other_sort : (bytes : List ℕ) → is_run bytes ≡ false → is_number bytes ≡ false → is_text bytes ≡ false → is_symbol bytes ≡ false → Other ≡ sort_of bytes
other_sort bytes run number text symbol = sym (sort_is bytes false false false false false (no_keyword bytes run) (and_left _ _ run) number text symbol)
