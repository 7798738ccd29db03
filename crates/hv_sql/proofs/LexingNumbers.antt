-- The value of a number, and what `from_utf8` tells of bytes.
use Rattle.std.proofs.Common.{◌≡◌, ℕ, ◌^◌, ◌<◌, true, List, min, Result, Ok, Err, MatchResult, is_ok, sym, arith, rules, length}
use Rattle.std.specs.List.{list_all}
use Rattle.std.specs.Result.{OkIff, result_unwrap_or}
use Rattle.std.specs.Str.{IsUtf8, is_utf8}
use Rattle.std.specs.Str.Parse.{ParsesUnsigned, digits_value}
use Rattle.std.proofs.lemmas.Bool.{false_from_ne_true}
use Rattle.std.proofs.lemmas.Bool.Decides.{nat_tests}
use Rattle.std.proofs.lemmas.Str.{IsUtf8-from_is_utf8, is_utf8-from_IsUtf8}
use Rattle.std.proofs.lemmas.Str.Parse.{IsDigitsTest, IsNumeralModel, numerals_by_value, parse_digits}
use Rattle.hv_model.specs.Token.{is_digit, is_number}
use Rattle.hv_model.proofs.TokenLaws.{number_digits}

pub utf8_told : {A E : Type 0} (bytes : List ℕ) (P : A → Type 0) (Q : E → Type 0) (r : Result A E)
    → MatchResult r (λ s. P s × IsUtf8 bytes) (λ e. (IsUtf8 bytes → ⊥) × Q e) → is_ok r ≡ is_utf8 bytes
utf8_told bytes P Q (Ok s) h = sym (is_utf8-from_IsUtf8 bytes h.1)
utf8_told bytes P Q (Err e) h = sym (false_from_ne_true (is_utf8 bytes) (λ is. h.0 (IsUtf8-from_is_utf8 bytes is)))

tells_digits : IsDigitsTest (λ ds. list_all is_digit ds ≡ true)
tells_digits = search (rules, nat_tests)

pub digits : IsNumeralModel (λ ds. list_all is_digit ds ≡ true) (digits_value 10)
digits = numerals_by_value _ tells_digits

pub number_some : (ds : List ℕ) → is_number ds ≡ true → 0 < length ds
number_some ds h = grind (arith, nat_tests)

at_most : {E : Type 0} (r : Result ℕ E) (some : Type 0) (value : ℕ) → some → OkIff r (some × (value < 2 ^ 64)) value → result_unwrap_or r 18446744073709551615 ≡ min value 18446744073709551615
at_most (Ok x) some value s h =
    let small = h.0.1 in
    let same = h.1 in
    omega arith
at_most (Err e) some value s h =
    let large : value < 2 ^ 64 → ⊥ = λ small. h (s, small) in
    omega arith

-- what parsing a number gives, where one out of range is taken for the largest
pub number_is : {E : Type 0} (ds : List ℕ) (r : Result ℕ E) → ParsesUnsigned 64 10 ds r → is_number ds ≡ true → result_unwrap_or r 18446744073709551615 ≡ min (digits_value 10 ds) 18446744073709551615
number_is ds r parsed h = at_most r (0 < length ds) (digits_value 10 ds) (number_some ds h) (parse_digits digits 64 ds r parsed (number_digits ds h))
