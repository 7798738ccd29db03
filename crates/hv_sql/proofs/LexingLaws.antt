-- The law of the tokens of a text.
use Rattle.std.proofs.Common.{◌≡◌, ◌⊎◌, ℕ, ◌+◌, ◌-◌, ◌<◌, ◌≤◌, zero, suc, Bool, true, false, not, ◌&&◌, ◌||◌, eqb, nat_le, List, [], ◌∷◌, ◌++◌, length, take, drop, get_or, refl, ap, sym, ◌∙◌, subst, subst₂, inl, inr, arith, add-zero, drop-drop, eqb-true}
use Rattle.std.specs.List.{All, list_all, list_any, slice_range}
use Rattle.std.specs.Str.{is_utf8}
use Rattle.std.proofs.lemmas.Bool.{cases_Bool, cases_lt, cond_both, and_parts, and_from, or_left, or_right, false≢true, both_ways, or_from}
use Rattle.std.proofs.lemmas.Str.{IsUtf8-from_is_utf8, is_utf8-from_IsUtf8}
use Rattle.hv_model.specs.declared.lexeme.Sort.{Sort}
use Rattle.hv_model.specs.declared.lexeme.Sort.TheVariants.{Name, Keyword, Number, Text, Symbol, Other}
use Rattle.hv_model.specs.declared.lexeme.Token.{Token}
use Rattle.hv_model.specs.Token.{is_white, is_keyword, is_number}
use Rattle.hv_model.specs.Lexemes.{is_run, is_text, is_quoted, closes, is_symbol, is_lexeme, longest, token_length, sort_of, token_at, tokens_from, tokens_of, unquoted, text_value, doubled, quoted, IsA, IsOf, IsLongest, InOrder, WhiteBetween, EachToken}
use Rattle.hv_sql.proofs.LexingLengths.{token_length_some, token_length_within}
use Rattle.hv_sql.proofs.LexingSorts.{choice, sort_is, keyword_run}

-- in order

sooner : (at later end : ℕ) (ts : List Token) → at ≤ later → InOrder later end ts → InOrder at end ts
sooner at later end [] le h = omega arith
sooner at later end (t ∷ ts) le h = (let first = h.0 in omega arith, h.1, h.2)

in_order : (xs : List ℕ) (at passed : ℕ) → passed ≤ length xs → InOrder (at + passed) (at + length xs) (tokens_from at passed xs)
in_order [] at passed le = omega arith
in_order (b ∷ bs) at (suc passed) le =
    let more = in_order bs (at + 1) passed (omega arith) in
    let e : at + 1 + passed ≡ at + suc passed = omega arith in
    let f : at + 1 + length bs ≡ at + suc (length bs) = omega arith in
    subst₂ (λ (m n : ℕ). InOrder m n (tokens_from (at + 1) passed bs)) e f more
in_order (b ∷ bs) at zero le =
    let n = token_length (b ∷ bs) in
    let some = token_length_some (b ∷ bs) in
    let within = token_length_within (b ∷ bs) (omega arith) in
    let f : at + 1 + length bs ≡ at + suc (length bs) = omega arith in
    let e : at + 1 + (n - 1) ≡ at + n = omega (arith, some) in
    cond_both (is_white b) (tokens_from (at + 1) 0 bs) (token_at at (b ∷ bs) ∷ tokens_from (at + 1) (n - 1) bs) (λ ts. InOrder (at + 0) (at + suc (length bs)) ts)
    (λ _. sooner (at + 0) (at + 1 + 0) (at + suc (length bs)) (tokens_from (at + 1) 0 bs) (omega arith)
    (subst (λ (k : ℕ). InOrder (at + 1 + 0) k (tokens_from (at + 1) 0 bs)) f (in_order bs (at + 1) 0 (omega arith))))
    (λ _. (omega arith, omega (arith, some), subst₂ (λ (m k : ℕ). InOrder m k (tokens_from (at + 1) (n - 1) bs)) e f (in_order bs (at + 1) (n - 1) (omega (arith, within)))))

pub tokens_in_order : (text : List ℕ) → InOrder 0 (length text) (tokens_of text)
tokens_in_order text =
    let f : 0 + length text ≡ length text = omega arith in
    subst (λ (k : ℕ). InOrder 0 k (tokens_of text)) f (in_order text 0 0 (omega arith))

-- tokens in order begin at their end or before
pub order_le : (at end : ℕ) (ts : List Token) → InOrder at end ts → at ≤ end
order_le at end [] h = h
order_le at end (t ∷ ts) h = let more = order_le t.to end ts h.2 in let first = h.0 in let some = h.1 in omega arith

all_within : (ts : List Token) (at end : ℕ) → InOrder at end ts → All (λ t. (t.from < t.to) × (t.to ≤ end)) ts
all_within [] at end h = λ k d lt. absurd (omega arith)
all_within (t ∷ ts) at end h = λ k. elim k as (λ k. (d : Token) → k < suc (length ts) → let x = get_or (t ∷ ts) k d in (x.from < x.to) × (x.to ≤ end)) [
  | zero ↦ λ d lt. (h.1, order_le t.to end ts h.2)
  | suc j ↦ λ d lt. all_within ts t.to end h.2 j d (omega arith)
]

pub tokens_within : (text : List ℕ) → All (λ t. (t.from < t.to) × (t.to ≤ length text)) (tokens_of text)
tokens_within text = all_within (tokens_of text) 0 (length text) (tokens_in_order text)

-- white between

drop_next : (text : List ℕ) (at b : ℕ) (bs : List ℕ) → drop at text ≡ b ∷ bs → drop (at + 1) text ≡ bs
drop_next text at b bs e = sym (drop-drop 1 at text) ∙ ap (drop 1) e

white_take : (b : ℕ) (bs rest : List ℕ) (k m : ℕ) → rest ≡ b ∷ bs → is_white b ≡ true → k ≡ m - 1 → list_all is_white (take k bs) ≡ true → list_all is_white (take m rest) ≡ true
white_take b bs rest k zero e white less h = refl
white_take b bs rest k (suc m) e white less h =
    let same : k ≡ m = omega arith in
    ap (λ (xs : List ℕ). list_all is_white (take (suc m) xs)) e ∙ and_from (is_white b) (list_all is_white (take m bs)) white (subst (λ (j : ℕ). list_all is_white (take j bs) ≡ true) same h)

white_before : (text : List ℕ) (at b : ℕ) (bs : List ℕ) (ts : List Token) → drop at text ≡ b ∷ bs → is_white b ≡ true → WhiteBetween text (at + 1) ts → WhiteBetween text at ts
white_before text at b bs [] e white h =
    ap (list_all is_white) e ∙ and_from (is_white b) (list_all is_white bs) white (ap (list_all is_white) (sym (drop_next text at b bs e)) ∙ h)
white_before text at b bs (t ∷ ts) e white h =
    let next : list_all is_white (take (t.from - (at + 1)) bs) ≡ true = ap (λ (xs : List ℕ). list_all is_white (take (t.from - (at + 1)) xs)) (sym (drop_next text at b bs e)) ∙ h.0 in
    (white_take b bs (drop at text) (t.from - (at + 1)) (t.from - at) e white (omega arith) next, h.1)

white_between : (text xs : List ℕ) (at passed : ℕ) → drop at text ≡ xs → passed ≤ length xs → WhiteBetween text (at + passed) (tokens_from at passed xs)
white_between text [] at passed e le =
    let none : passed ≡ 0 = omega arith in
    ap (λ (k : ℕ). list_all is_white (drop (at + k) text)) none ∙ ap (λ (k : ℕ). list_all is_white (drop k text)) (add-zero at) ∙ ap (list_all is_white) e
white_between text (b ∷ bs) at (suc passed) e le =
    let f : at + 1 + passed ≡ at + suc passed = omega arith in
    subst (λ (k : ℕ). WhiteBetween text k (tokens_from (at + 1) passed bs)) f (white_between text bs (at + 1) passed (drop_next text at b bs e) (omega arith))
white_between text (b ∷ bs) at zero e le =
    let n = token_length (b ∷ bs) in
    let some = token_length_some (b ∷ bs) in
    let within = token_length_within (b ∷ bs) (omega arith) in
    let f : at + 1 + (n - 1) ≡ at + n = omega (arith, some) in
    let next = drop_next text at b bs e in
    let gap : at - (at + 0) ≡ 0 = omega arith in
    cond_both (is_white b) (tokens_from (at + 1) 0 bs) (token_at at (b ∷ bs) ∷ tokens_from (at + 1) (n - 1) bs) (λ ts. WhiteBetween text (at + 0) ts)
    (λ white. subst (λ (k : ℕ). WhiteBetween text k (tokens_from (at + 1) 0 bs)) (sym (add-zero at))
    (white_before text at b bs (tokens_from (at + 1) 0 bs) e white
    (subst (λ (k : ℕ). WhiteBetween text k (tokens_from (at + 1) 0 bs)) (add-zero (at + 1)) (white_between text bs (at + 1) 0 next (omega arith)))))
    (λ dark. (
      ap (λ (k : ℕ). list_all is_white (take k (drop (at + 0) text))) gap,
      subst (λ (k : ℕ). WhiteBetween text k (tokens_from (at + 1) (n - 1) bs)) f (white_between text bs (at + 1) (n - 1) next (omega (arith, within))),
    ))

pub nothing_lost : (text : List ℕ) → WhiteBetween text 0 (tokens_of text)
nothing_lost text = white_between text text 0 0 refl (omega arith)

-- of its sort

name_of_run : (bytes : List ℕ) → is_run bytes ≡ true → nat_le (length bytes) 30 ≡ true → is_keyword bytes ≡ false → IsA Name bytes
unfolding is_run
name_of_run bytes run short k =
    and_from (is_run bytes && nat_le (length bytes) 30) (not (is_keyword bytes)) (and_from _ _ run short) (ap not k)

-- a name is a run of at most 30 bytes
run_of_name : (bytes : List ℕ) → IsA Name bytes → (is_run bytes && nat_le (length bytes) 30) ≡ true
unfolding is_run
run_of_name bytes is = (and_parts (is_run bytes && nat_le (length bytes) 30) (not (is_keyword bytes)) is).0

sort_other : (bytes : List ℕ) → is_keyword bytes ≡ false → (is_run bytes && nat_le (length bytes) 30) ≡ false → is_number bytes ≡ false → is_text bytes ≡ false → is_symbol bytes ≡ false
    → (s : Sort) → IsA s bytes → ⊥
sort_other bytes k w n t m Name is = both_ways _ w (run_of_name bytes is)
sort_other bytes k w n t m Keyword is = both_ways (is_keyword bytes) k is
sort_other bytes k w n t m Number is = both_ways (is_number bytes) n is
sort_other bytes k w n t m Text is = both_ways _ t (and_from _ _ is.0 (is_utf8-from_IsUtf8 bytes is.1))
sort_other bytes k w n t m Symbol is = both_ways (is_symbol bytes) m is
sort_other bytes k w n t m Other is = is

of_choice : (bytes : List ℕ) (keyword name number text symbol : Bool) → is_keyword bytes ≡ keyword → (is_run bytes && nat_le (length bytes) 30) ≡ name → is_number bytes ≡ number
    → is_text bytes ≡ text → is_symbol bytes ≡ symbol → IsOf (choice keyword name number text symbol) bytes
of_choice bytes true name number text symbol k w n t m = k
of_choice bytes false true number text symbol k w n t m = let parts = and_parts (is_run bytes) (nat_le (length bytes) 30) w in name_of_run bytes parts.0 parts.1 k
of_choice bytes false false true text symbol k w n t m = n
of_choice bytes false false false true symbol k w n t m = let parts = and_parts (is_quoted bytes) (is_utf8 bytes) t in (parts.0, IsUtf8-from_is_utf8 bytes parts.1)
of_choice bytes false false false false true k w n t m = m
of_choice bytes false false false false false k w n t m = sort_other bytes k w n t m

pub of_its_sort : (bytes : List ℕ) → IsOf (sort_of bytes) bytes
of_its_sort bytes =
    let keyword = is_keyword bytes in
    let name = is_run bytes && nat_le (length bytes) 30 in
    let number = is_number bytes in
    let text = is_text bytes in
    let symbol = is_symbol bytes in
    subst (λ (s : Sort). IsOf s bytes) (sym (sort_is bytes keyword name number text symbol refl refl refl refl refl)) (of_choice bytes keyword name number text symbol refl refl refl refl refl)

-- and the longest

pub lexeme_of : (s : Sort) (bytes : List ℕ) → IsA s bytes → is_lexeme bytes ≡ true
unfolding is_lexeme
lexeme_of Name bytes is =
    let run = (and_parts (is_run bytes) (nat_le (length bytes) 30) (run_of_name bytes is)).0 in
    or_left _ (is_symbol bytes) (or_left _ (is_quoted bytes) (or_left (is_run bytes) (is_number bytes) run))
lexeme_of Keyword bytes is = or_left _ (is_symbol bytes) (or_left _ (is_quoted bytes) (or_left (is_run bytes) (is_number bytes) (keyword_run bytes is)))
lexeme_of Number bytes is = or_left _ (is_symbol bytes) (or_left _ (is_quoted bytes) (or_right (is_run bytes) (is_number bytes) is))
lexeme_of Text bytes is = or_left _ (is_symbol bytes) (or_right (is_run bytes || is_number bytes) (is_quoted bytes) is.0)
lexeme_of Symbol bytes is = or_right (is_run bytes || is_number bytes || is_quoted bytes) (is_symbol bytes) is
lexeme_of Other bytes is = absurd is

no_lexeme : is_lexeme [] ≡ false
unfolding is_lexeme is_run is_symbol
no_lexeme = refl

-- what `longest` finds, of at most so many bytes
record Found (xs : List ℕ) (k n : ℕ) : Type 0 where
  pub whole : (is_lexeme (take n xs) ≡ true) ⊎ ((n ≡ 1) × ((m : ℕ) → m ≤ k → is_lexeme (take m xs) ≡ false))
  pub longer : (m : ℕ) → n < m → m ≤ k → is_lexeme (take m xs) ≡ false

found_none : (xs : List ℕ) → Found xs 0 1
found_none xs = record {
  whole = inr (refl, λ m le. let e : m ≡ 0 = omega arith in ap (λ (j : ℕ). is_lexeme (take j xs)) e ∙ no_lexeme);
  longer = λ m lt le. absurd (omega arith);
}

found_more : (xs : List ℕ) (k n : ℕ) → is_lexeme (take (suc k) xs) ≡ false → Found xs k n → Found xs (suc k) n
found_more xs k n next h =
    let step : ((m : ℕ) → m ≤ k → is_lexeme (take m xs) ≡ false) → (m : ℕ) → m ≤ suc k → is_lexeme (take m xs) ≡ false = λ all m le. elim (cases_lt k m) [
      | inl more ↦ let e : suc k ≡ m = omega arith in subst (λ (j : ℕ). is_lexeme (take j xs) ≡ false) e next
      | inr fewer ↦ all m fewer
    ] in
    record {
      whole = elim h.whole [ inl is ↦ inl is | inr none ↦ inr (none.0, step none.1) ];
      longer = λ m lt le. elim (cases_lt k m) [
        | inl more ↦ let e : suc k ≡ m = omega arith in subst (λ (j : ℕ). is_lexeme (take j xs) ≡ false) e next
        | inr fewer ↦ h.longer m lt fewer
      ];
    }

found_longest : (k : ℕ) (xs : List ℕ) → Found xs k (longest k xs)
found_longest zero xs = found_none xs
found_longest (suc k) xs =
    cond_both (is_lexeme (take (suc k) xs)) (suc k) (longest k xs) (λ n. Found xs (suc k) n)
    (λ is. record { whole = inl is; longer = λ m lt le. absurd (omega arith) })
    (λ next. found_more xs k (longest k xs) next (found_longest k xs))

pub is_longest : (xs : List ℕ) → 0 < length xs → IsLongest xs (token_length xs)
unfolding token_length
is_longest xs some =
    let found = found_longest (length xs) xs in
    record {
      some = token_length_some xs;
      within = token_length_within xs some;
      whole = found.whole;
      longer = found.longer;
      no_longer = λ m s lt le is. both_ways _ (found.longer m lt le) (lexeme_of s (take m xs) is);
    }

each_token : (text xs : List ℕ) (at passed : ℕ) → drop at text ≡ xs → passed ≤ length xs → EachToken text (tokens_from at passed xs)
each_token text [] at passed e le = tt
each_token text (b ∷ bs) at (suc passed) e le = each_token text bs (at + 1) passed (drop_next text at b bs e) (omega arith)
each_token text (b ∷ bs) at zero e le =
    let n = token_length (b ∷ bs) in
    let within = token_length_within (b ∷ bs) (omega arith) in
    let some = token_length_some (b ∷ bs) in
    let next = drop_next text at b bs e in
    let width : n ≡ at + n - at = omega arith in
    let bytes : take n (b ∷ bs) ≡ slice_range text at (at + n) = ap (λ (xs : List ℕ). take n xs) (sym e) ∙ ap (λ (k : ℕ). take k (drop at text)) width in
    cond_both (is_white b) (tokens_from (at + 1) 0 bs) (token_at at (b ∷ bs) ∷ tokens_from (at + 1) (n - 1) bs) (λ ts. EachToken text ts)
    (λ white. each_token text bs (at + 1) 0 next (omega arith))
    (λ dark. (
      subst (λ (xs : List ℕ). IsOf (sort_of (take n (b ∷ bs))) xs) bytes (of_its_sort (take n (b ∷ bs))),
      subst₂ (λ (xs : List ℕ) (k : ℕ). IsLongest xs k) (sym e) width (is_longest (b ∷ bs) (omega arith)),
      ap (λ (xs : List ℕ). list_any is_white (take 1 xs)) e ∙ or_from (is_white b) false dark refl,
      each_token text bs (at + 1) (n - 1) next (omega (arith, within)),
    ))

pub tokens_longest : (text : List ℕ) → EachToken text (tokens_of text)
tokens_longest text = each_token text text 0 0 refl (omega arith)

-- texts and their values

front : Bool → List ℕ → List ℕ
front true bs = 39 ∷ bs
front false bs = bs

requoted : (p : Bool) (bs : List ℕ) → closes p bs ≡ true → doubled (unquoted p bs) ++ 39 ∷ [] ≡ front p bs
unfolding front
requoted true [] h = refl
requoted false [] h = absurd (false≢true h)
requoted true (b ∷ bs) h = elim (cases_Bool (eqb b 39)) [
  | inl e ↦
      let is = eqb-true b 39 e in
      let inner : closes false bs ≡ true = rw e at h in
      let more = requoted false bs inner in
      rw e (rw e (ap (λ (xs : List ℕ). 39 ∷ 39 ∷ xs) more ∙ ap (λ (x : ℕ). 39 ∷ x ∷ bs) (sym is)))
  | inr e ↦ absurd (false≢true (rw e at h))
]
requoted false (b ∷ bs) h = elim (cases_Bool (eqb b 39)) [
  | inl e ↦
      let is = eqb-true b 39 e in
      let inner : closes true bs ≡ true = rw e at h in
      let more = requoted true bs inner in
      rw e (more ∙ ap (λ (x : ℕ). x ∷ bs) (sym is))
  | inr e ↦
      let inner : closes false bs ≡ true = rw e at h in
      let more = requoted false bs inner in
      rw e (rw e (ap (λ (xs : List ℕ). b ∷ xs) more))
]

pub texts_written : (bytes : List ℕ) → is_quoted bytes ≡ true → quoted (text_value bytes) ≡ bytes
unfolding front
texts_written [] h = absurd (false≢true h)
texts_written (b ∷ bs) h =
    let parts = and_parts (eqb b 39) (closes false bs) h in
    ap (λ (xs : List ℕ). 39 ∷ xs) (requoted false bs parts.1) ∙ ap (λ (x : ℕ). x ∷ bs) (sym (eqb-true b 39 parts.0))

closed_doubled : (value : List ℕ) → closes false (doubled value ++ 39 ∷ []) ≡ true
closed_doubled [] = refl
closed_doubled (b ∷ bs) = elim (cases_Bool (eqb b 39)) [ inl e ↦ rw e (closed_doubled bs) | inr e ↦ rw e (rw e (closed_doubled bs)) ]

read_doubled : (value : List ℕ) → unquoted false (doubled value ++ 39 ∷ []) ≡ value
read_doubled [] = refl
read_doubled (b ∷ bs) = elim (cases_Bool (eqb b 39)) [
  | inl e ↦ rw e (ap (λ (xs : List ℕ). 39 ∷ xs) (read_doubled bs) ∙ ap (λ (x : ℕ). x ∷ bs) (sym (eqb-true b 39 e)))
  | inr e ↦ rw e (rw e (ap (λ (xs : List ℕ). b ∷ xs) (read_doubled bs)))
]

pub values_read : (value : List ℕ) → (is_quoted (quoted value) ≡ true) × (text_value (quoted value) ≡ value)
values_read value = (closed_doubled value, read_doubled value)
