-- Numbers in decimal before a byte that is no digit.
use Rattle.std.proofs.Common.{◌≡◌, ℕ, ℤ, pos, negsuc, ◌<◌, ◌^◌, suc, Bool, true, List, [], ◌∷◌, ◌++◌, length, refl, sym, ap, ◌∙◌, arith}
use Rattle.std.specs.Prelude.{◌||◌, ◌==◌, FitsSigned}
use Rattle.std.specs.Int.{w128}
use Rattle.std.specs.List.{list_all}
use Rattle.std.specs.Fmt.{decimal, signed_decimal}
use Rattle.std.specs.Str.Parse.{AllDigits, digits_value}
use Rattle.std.proofs.lemmas.Bool.{and_parts, or_left}
use Rattle.std.proofs.lemmas.Bool.Decides.{nat_tests}
use Rattle.std.proofs.lemmas.Fmt.{decimal_is_IsNumeral_wide}
use Rattle.std.proofs.lemmas.Str.Parse.{digit_from_value}
use Rattle.hv_model.specs.Token.{is_digit}
use Rattle.hv_report.specs.Law.{Is8, Is32, Is64}
use Rattle.hv_report.proofs.Decoding.{Decodes, Starts, Stops, run_told, starts_append, starts_or_stops}

-- what `decimal` writes in full
abbrev pub IsWide : ℕ → Type 0
IsWide n = n < 10 ^ 64

-- a number of 8 bits is written in full
pub wide_8 : (n : ℕ) → Is8 n → IsWide n
wide_8 n h = omega arith

-- so is a number of 32 bits
pub wide_32 : (n : ℕ) → Is32 n → IsWide n
wide_32 n h = omega arith

-- so is a number of 64 bits
pub wide_64 : (n : ℕ) → Is64 n → IsWide n
wide_64 n h = omega arith

-- digits are digits to the tokens too
digits_pass : (ds : List ℕ) → AllDigits 10 ds → list_all is_digit ds ≡ true
digits_pass [] all = refl
digits_pass (d ∷ ds) all =
    let range = digit_from_value d all.0 in
    let here : is_digit d ≡ true = grind (arith, nat_tests, range.0, range.1) in
    rw here (digits_pass ds all.1)

-- and the first is one
digits_start : (ds : List ℕ) → 0 < length ds → list_all is_digit ds ≡ true → Starts is_digit ds
digits_start [] some all = absurd (omega arith)
digits_start (d ∷ ds) some all = (and_parts (is_digit d) (list_all is_digit ds) all).0

-- what a number begins with
pub decimal_starts : (n : ℕ) → IsWide n → Starts is_digit (decimal n)
decimal_starts n wide = let is = decimal_is_IsNumeral_wide n wide in digits_start (decimal n) is.0.0 (digits_pass (decimal n) is.0.1)

-- equal digits have one value
decimal_same : (m n : ℕ) → IsWide m → IsWide n → decimal m ≡ decimal n → m ≡ n
decimal_same m n wide wide' e =
    let value = (decimal_is_IsNumeral_wide m wide).1 in
    let value' = (decimal_is_IsNumeral_wide n wide').1 in
    sym value ∙ ap (digits_value 10) e ∙ value'

-- a number before no digit
pub decimal_told : Decodes IsWide decimal (Stops is_digit) (λ a b. a ≡ b)
decimal_told a b x y wide wide' stops stops' e =
    let all = digits_pass (decimal a) (decimal_is_IsNumeral_wide a wide).0.1 in
    let all' = digits_pass (decimal b) (decimal_is_IsNumeral_wide b wide').0.1 in
    let told = run_told is_digit (decimal a) (decimal b) x y all all' stops stops' e in
    (decimal_same a b wide wide' told.0, told.1)

-- what a signed number begins with
abbrev pub begins_number : ℕ → Bool
begins_number c = is_digit c || c == 45

-- a digit begins a signed number
starts_number : (ds : List ℕ) → Starts is_digit ds → Starts begins_number ds
starts_number [] h = h
starts_number (d ∷ ds) h = or_left (is_digit d) (d == 45) h

-- so does what is written of it
pub signed_starts : (z : ℤ) → FitsSigned w128 z → Starts begins_number (signed_decimal z)
signed_starts (pos n) fits = starts_number (decimal n) (decimal_starts n (omega (arith, fits.sfits)))
signed_starts (negsuc n) fits = refl

-- a signed number before no digit
pub signed_told : Decodes (FitsSigned w128) signed_decimal (Stops is_digit) (λ a b. a ≡ b)
signed_told (pos a) (pos b) x y fits fits' stops stops' e =
    let told = decimal_told a b x y (omega (arith, fits.sfits)) (omega (arith, fits'.sfits)) stops stops' e in
    (ap pos told.0, told.1)
signed_told (pos a) (negsuc b) x y fits fits' stops stops' e =
    let first = starts_append is_digit (decimal a) x (decimal_starts a (omega (arith, fits.sfits))) in
    absurd (starts_or_stops is_digit (decimal a ++ x) (45 ∷ (decimal (suc b) ++ y)) first refl e)
signed_told (negsuc a) (pos b) x y fits fits' stops stops' e =
    let first = starts_append is_digit (decimal b) y (decimal_starts b (omega (arith, fits'.sfits))) in
    absurd (starts_or_stops is_digit (decimal b ++ y) (45 ∷ (decimal (suc a) ++ x)) first refl (sym e))
signed_told (negsuc a) (negsuc b) x y fits fits' stops stops' e =
    let rest : decimal (suc a) ++ x ≡ decimal (suc b) ++ y = cc in
    let told = decimal_told (suc a) (suc b) x y (omega (arith, fits.sfits)) (omega (arith, fits'.sfits)) stops stops' rest in
    let same : suc a ≡ suc b = told.0 in
    let number : a ≡ b = omega arith in
    (ap negsuc number, told.1)
