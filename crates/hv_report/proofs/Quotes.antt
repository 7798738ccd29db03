-- Where the quotes of a text are.
use Rattle.std.proofs.Common.{◌≡◌, ℕ, ◌+◌, ◌<◌, ◌≤◌, Bool, false, cond, List, [], ◌∷◌, ◌++◌, length, get_or, take, drop, suc, zero, refl, ap, ◌∙◌, append_assoc, arith, Some, None, nat_eq, nat_lt}
use Rattle.std.specs.Prelude.{◌==◌, position}
use Rattle.std.specs.List.{flat_map, position_or_len}
use Rattle.std.proofs.lemmas.List.{append-nil, take_all, drop_all, take_more, drop_more}
use Rattle.std.proofs.lemmas.List.Quantifiers.{position-Some}
use Rattle.std.proofs.lemmas.List.Sums.{fails_before_first}
use Rattle.std.proofs.lemmas.Bool.Decides.{nat_tests}
use Rattle.hv_model.specs.Report.{quoted_byte}

abbrev pub is_quote : ℕ → Bool
is_quote byte = byte == 39

-- a run without a quote stands as it is
pub unquoted_run : (n : ℕ) (xs : List ℕ) → n ≤ length xs → ((k : ℕ) → k < n → is_quote (get_or xs k 0) ≡ false)
    → flat_map quoted_byte xs ≡ take n xs ++ flat_map quoted_byte (drop n xs)
unquoted_run zero xs within before = refl
unquoted_run (suc n) [] within before = absurd (omega arith)
unquoted_run (suc n) (x ∷ xs) within before =
    let plain : nat_eq x 39 ≡ false = before 0 (omega arith) in
    let more : flat_map quoted_byte xs ≡ take n xs ++ flat_map quoted_byte (drop n xs) = unquoted_run n xs (omega arith) (λ k h. before (suc k) (omega arith)) in
    rw (plain, more) refl

past_all : (n m : ℕ) → cond (nat_lt n m) (Some n) None ≡ None → m ≤ n
past_all n m e = grind (arith, nat_tests)

-- a text without a quote stands as it is
pub unquoted : (xs : List ℕ) → position is_quote xs ≡ None → flat_map quoted_byte xs ≡ xs
unquoted xs none =
    let past : length xs ≤ position_or_len is_quote xs = past_all _ _ none in
    let run = unquoted_run (length xs) xs (omega arith) (λ k h. fails_before_first is_quote xs k 0 (omega arith)) in
    run ∙ rw (take_all (length xs) xs (omega arith), drop_all (length xs) xs (omega arith)) (append-nil xs)

-- a run up to a quote stands before another quote
pub quoted_run : (i : ℕ) (xs : List ℕ) → position is_quote xs ≡ Some i
    → flat_map quoted_byte xs ≡ (take (i + 1) xs ++ 39 ∷ []) ++ flat_map quoted_byte (drop (i + 1) xs)
quoted_run i xs some =
    let first = position-Some is_quote xs i 0 some in
    let within : i < length xs = first.0 in
    let quote : get_or xs i 0 ≡ 39 = grind (arith, nat_tests, first.1) in
    let run = unquoted_run i xs (omega arith) first.2 in
    let here : drop i xs ≡ 39 ∷ drop (i + 1) xs = drop_more xs i 0 within ∙ ap (λ x. x ∷ drop (i + 1) xs) quote in
    let with_it : take (i + 1) xs ≡ take i xs ++ 39 ∷ [] = take_more xs i 0 within ∙ ap (λ x. take i xs ++ x ∷ []) quote in
    run ∙ rw (here, with_it) (simp append_assoc)
