-- Fields that are numbers: what `parse` reads is what is an integer.
use Rattle.std.proofs.Common.{◌≡◌, ℕ, zero, suc, ◌≤◌, ◌^◌, Bool, true, false, cond, eqb, ltb, leb, List, [], ◌∷◌, length, drop, ℤ, pos, neg_ℤ, refl, arith, leb-true, ltb-true, eqb-true, le-leb, lt-ltb, lit<, Result, Ok, Err, SomeIff}
use Rattle.std.specs.Prelude.{FitsSigned, IsUtf8}
use Rattle.std.proofs.lemmas.Bool.{and_parts, and_from}
use Rattle.std.specs.Int.{w64}
use Rattle.std.specs.List.{list_all}
use Rattle.std.specs.Result.{result_ok}
use Rattle.std.specs.Str.{IsAscii}
use Rattle.std.specs.Str.Parse.{IsNumeral, digits_value, without_leading_sign, signed_digits_value, starts_with_minus, ParsesSigned}
use Rattle.std.proofs.lemmas.Str.{IsUtf8-from_ascii}
use Rattle.std.proofs.lemmas.Str.Parse.{IsNumeralModel, numerals_by_value}
use Rattle.hv_model.specs.Token.{is_digit, is_number}
use Rattle.hv_model.specs.Import.{amount_fits, is_integer}

numerals : IsNumeralModel (λ ds. list_all is_digit ds ≡ true) (digits_value 10)
numerals = numerals_by_value _ (record {
  empty = refl;
  parts = λ c cs e.
      let all = and_parts (is_digit c) (list_all is_digit cs) e in
      let digit = and_parts (leb 48 c) (leb c 57) all.0 in
      ((leb-true 48 c digit.0, leb-true c 57 digit.1), all.1);
  more = λ c cs r e. and_from (is_digit c) (list_all is_digit cs) (and_from (leb 48 c) (leb c 57) (le-leb 48 c r.0) (le-leb c 57 r.1)) e;
})

amount_to : (minus : Bool) (n : ℕ) → amount_fits minus n ≡ true → FitsSigned w64 (cond minus (neg_ℤ (pos n)) (pos n))
amount_to true zero e = record { sfits = lit< tt }
amount_to true (suc n) e = record { sfits = leb-true (suc n) (2 ^ 63) e }
amount_to false n e = record { sfits = ltb-true n (2 ^ 63) e }

amount_from : (minus : Bool) (n : ℕ) → FitsSigned w64 (cond minus (neg_ℤ (pos n)) (pos n)) → amount_fits minus n ≡ true
amount_from true zero f = refl
amount_from true (suc n) f = le-leb (suc n) (2 ^ 63) f.sfits
amount_from false n f = lt-ltb n (2 ^ 63) f.sfits

pub integer_reads : (field : List ℕ) → is_integer field ≡ true → IsNumeral 10 (without_leading_sign field) × FitsSigned w64 (signed_digits_value 10 field)
integer_reads field e =
    let ds = without_leading_sign field in
    let parts = and_parts (is_number ds) (amount_fits (starts_with_minus field) (digits_value 10 ds)) e in
    let number = and_parts (leb 1 (length ds)) (list_all is_digit ds) parts.0 in
    ((leb-true 1 (length ds) number.0, numerals.to ds number.1), amount_to (starts_with_minus field) (digits_value 10 ds) parts.1)

read_is_integer : (field : List ℕ) → IsNumeral 10 (without_leading_sign field) → FitsSigned w64 (signed_digits_value 10 field) → is_integer field ≡ true
read_is_integer field n f =
    let ds = without_leading_sign field in
    and_from (is_number ds) (amount_fits (starts_with_minus field) (digits_value 10 ds))
    (and_from (leb 1 (length ds)) (list_all is_digit ds) (le-leb 1 (length ds) n.0) (numerals.from ds n.1)) (amount_from (starts_with_minus field) (digits_value 10 ds) f)

pub parsed : {E : Type 0} (field : List ℕ) (r : Result ℤ E) → ParsesSigned w64 10 field r → SomeIff (result_ok r) (is_integer field ≡ true) (signed_digits_value 10 field)
parsed field (Ok x) p = (read_is_integer field p.0.0 p.0.1, p.1)
parsed field (Err e) p = λ is. p (integer_reads field is)

-- a number is a text: its bytes are below 128
abbrev pub small : ℕ → Bool
small b = ltb b 128

ascii : (bs : List ℕ) → list_all small bs ≡ true → IsAscii bs
ascii [] e i = lit< tt
ascii (b ∷ bs) e zero = ltb-true b 128 (and_parts (small b) (list_all small bs) e).0
ascii (b ∷ bs) e (suc i) = ascii bs (and_parts (small b) (list_all small bs) e).1 i

small_digits : (ds : List ℕ) → list_all is_digit ds ≡ true → list_all small ds ≡ true
small_digits [] e = refl
small_digits (d ∷ ds) e =
    let all = and_parts (is_digit d) (list_all is_digit ds) e in
    let h : d ≤ 57 = leb-true d 57 (and_parts (leb 48 d) (leb d 57) all.0).1 in
    and_from (small d) (list_all small ds) (lt-ltb d 128 (omega arith)) (small_digits ds all.1)

small_signed : (field : List ℕ) → list_all is_digit (without_leading_sign field) ≡ true → list_all small field ≡ true
small_signed [] e = refl
small_signed (b ∷ bs) e =
    elim (eqb b 45) as (λ v. eqb b 45 ≡ v → list_all is_digit (cond v bs (drop (cond (eqb b 43) 1 0) (b ∷ bs))) ≡ true → list_all small (b ∷ bs) ≡ true) [
      | true ↦ λ is h. and_from (small b) (list_all small bs) (lt-ltb b 128 (omega (arith, eqb-true b 45 is))) (small_digits bs h)
      | false ↦ λ _. elim (eqb b 43) as (λ v. eqb b 43 ≡ v → list_all is_digit (drop (cond v 1 0) (b ∷ bs)) ≡ true → list_all small (b ∷ bs) ≡ true) [
        | true ↦ λ is h. and_from (small b) (list_all small bs) (lt-ltb b 128 (omega (arith, eqb-true b 43 is))) (small_digits bs h)
        | false ↦ λ _ h. small_digits (b ∷ bs) h
      ] refl
    ] refl e

pub integer_text : (field : List ℕ) → is_integer field ≡ true → IsUtf8 field
integer_text field e =
    let ds = without_leading_sign field in
    let number = and_parts (is_number ds) (amount_fits (starts_with_minus field) (digits_value 10 ds)) e in
    IsUtf8-from_ascii field (ascii field (small_signed field (and_parts (leb 1 (length ds)) (list_all is_digit ds) number.0).1))
