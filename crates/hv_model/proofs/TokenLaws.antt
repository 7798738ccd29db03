-- Number tokens are texts, and names have name bytes alone.
use Rattle.std.proofs.Common.{◌≡◌, ℕ, true, not, ◌&&◌, List, [], ◌∷◌, length, arith}
use Rattle.std.specs.Prelude.{nat_le}
use Rattle.std.specs.List.{list_all}
use Rattle.std.specs.Str.{IsAscii, IsUtf8}
use Rattle.std.proofs.lemmas.Bool.{and_parts}
use Rattle.std.proofs.lemmas.Bool.Decides.{nat_tests}
use Rattle.std.proofs.lemmas.Str.{IsUtf8-from_ascii}
use Rattle.std.proofs.lemmas.Str.Ascii.{IsAscii-nil, IsAscii-cons}
use Rattle.hv_model.specs.Token.{is_digit, is_number, begins_as_name, is_name_byte, is_keyword, is_name}

-- digits are bytes of a text
pub ascii_digits : (ds : List ℕ) → list_all is_digit ds ≡ true → IsAscii ds
ascii_digits [] h = IsAscii-nil
ascii_digits (c ∷ cs) h = IsAscii-cons c cs (grind (arith, nat_tests)) (ascii_digits cs (grind (arith, nat_tests)))

-- a number has digits alone
pub number_digits : (ds : List ℕ) → is_number ds ≡ true → list_all is_digit ds ≡ true
number_digits ds h = grind (arith, nat_tests)

pub utf8_number : (ds : List ℕ) → is_number ds ≡ true → IsUtf8 ds
utf8_number ds h = IsUtf8-from_ascii ds (ascii_digits ds (number_digits ds h))

-- each byte of a name is one that a name may go on with
pub name_bytes : (name : List ℕ) → is_name name ≡ true → list_all is_name_byte name ≡ true
name_bytes name is =
    let long = and_parts (begins_as_name name && list_all is_name_byte name && nat_le (length name) 30) (not (is_keyword name)) is in
    let run = and_parts (begins_as_name name && list_all is_name_byte name) (nat_le (length name) 30) long.0 in
    (and_parts (begins_as_name name) (list_all is_name_byte name) run.0).1
