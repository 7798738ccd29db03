-- The numbers of words, and how many keys words gave.
use Rattle.std.proofs.Common.{◌≡◌, ℕ, ◌^◌, ◌<◌, true, List, length, Some, Result, Ok, Err, cond, refl, ap, arith}
use Rattle.std.specs.Result.{OkIff, result_ok}
use Rattle.std.specs.Str.Parse.{ParsesUnsigned, digits_value}
use Rattle.std.proofs.lemmas.Bool.{lt-ltb, le-ltb}
use Rattle.std.proofs.lemmas.Str.Parse.{parse_digits}
use Rattle.hv_model.specs.Token.{is_number}
use Rattle.hv_model.proofs.TokenLaws.{number_digits}
use Rattle.hv_sql.proofs.LexingNumbers.{digits, number_some}
use Rattle.hv_script.specs.declared.words.Chosen.{Chosen}
use Rattle.hv_script.specs.Words.{number_of}

number_told : {E : Type 0} (ds : List ℕ) (r : Result ℕ E) → is_number ds ≡ true → OkIff r ((0 < length ds) × (digits_value 10 ds < 2 ^ 64)) (digits_value 10 ds) → result_ok r ≡ number_of ds
number_told ds (Ok x) h told = rw (h, lt-ltb (digits_value 10 ds) (2 ^ 64) told.0.1) (ap (λ z. Some z) told.1)
number_told ds (Err e) h told =
    let large : digits_value 10 ds < 2 ^ 64 → ⊥ = λ small. told (number_some ds h, small) in
    rw (h, le-ltb (digits_value 10 ds) (2 ^ 64) (omega arith)) refl

-- what parsing digits gives
pub number_parsed : {E : Type 0} (ds : List ℕ) (r : Result ℕ E) → ParsesUnsigned 64 10 ds r → is_number ds ≡ true → result_ok r ≡ number_of ds
number_parsed ds r parsed h = number_told ds r h (parse_digits digits 64 ds r parsed (number_digits ds h))

-- how many keys were given
abbrev pub keys : Chosen → ℕ
keys chosen = cond chosen.has_order 1 0
