-- What is spelled is read again, and what is read is spelled so.
use Rattle.std.proofs.Common.{◌≡◌, ℕ, suc, ◌+◌, ◌-◌, ◌^◌, ◌<◌, ◌≤◌, Bool, true, false, cond, ltb, List, [], ◌∷◌, ◌++◌, length, get_or, take, drop, Option, Some, None, refl, sym, ap, subst, ◌∙◌, append_assoc, arith, inl, inr, add-zero}
use Rattle.std.specs.Prelude.{IsUtf8}
use Rattle.std.specs.Int.{w64, from_be_bytes, to_be_bytes, cast_signed, cast_unsigned}
use Rattle.std.specs.Str.{is_utf8}
use Rattle.std.proofs.Math.Facts.{sfits_to_z, Fits-of_z}
use Rattle.std.proofs.lemmas.Bool.{cases_lt, false_from_ne_true, ltb-false, le-ltb, lt-ltb}
use Rattle.std.proofs.lemmas.Int.{to_z-of_z, of_z-to_z}
use Rattle.std.proofs.lemmas.List.{take_at, drop_at, take-append-drop, length-append, length-take, length-drop, get_or-drop, get_or-take, get_or_past, append-nil, take_all}
use Rattle.std.proofs.lemmas.Nat.{be_bytes_8, from_be_bytes-to_be_bytes_8}
use Rattle.std.proofs.lemmas.Option.{same_Some, cond_some}
use Rattle.std.proofs.lemmas.Str.{IsUtf8-from_is_utf8, is_utf8-from_IsUtf8}
use Rattle.hv_row.specs.declared.value.Value.{Value}
use Rattle.hv_row.specs.declared.value.Value.TheVariants.{Int, Text}
use Rattle.hv_row.specs.declared.value.ColType.{ColType}
use Rattle.hv_row.specs.declared.value.ColType.TheVariants as kind
use Rattle.hv_row.specs.declared.schema.Column.{Column}
use Rattle.hv_row.specs.Value.{FitsType, IsTextValue, value_bytes}
use Rattle.hv_row.specs.Row.{RowFits, row_bytes}
use Rattle.hv_row.specs.Spelling.{IsSpelling, value_length, behind, fault_from, row_fault}
use Rattle.hv_row.specs.Packed.{value_spelled}

abbrev pub IsBytes : List ℕ → Type 0
IsBytes bytes = (i : ℕ) → get_or bytes i 0 < 256

pub IsBytes-drop : (n : ℕ) (bytes : List ℕ) → IsBytes bytes → IsBytes (drop n bytes)
IsBytes-drop n bytes h i = rw get_or-drop (h (n + i))

pub IsBytes-take : (n : ℕ) (bytes : List ℕ) → IsBytes bytes → IsBytes (take n bytes)
IsBytes-take n bytes h i =
    elim (cases_lt i n) [
      | inl lt ↦ rw (get_or-take n bytes i 0 lt) (h i)
      | inr le ↦ rw (get_or_past (take n bytes) i 0 (omega (arith, length-take n bytes))) (omega arith)
    ]

-- ---- numbers

-- the number that eight bytes spell
abbrev pub number : List ℕ → Value
number bytes = Int (cast_signed w64 (from_be_bytes w64 bytes))

below : (bytes : List ℕ) → IsBytes bytes → from_be_bytes w64 bytes < 2 ^ 64
below bytes fits = omega (arith, fits 0, fits 1, fits 2, fits 3, fits 4, fits 5, fits 6, fits 7)

pub number_fits : (bytes : List ℕ) → IsBytes bytes → FitsType kind.Int (number bytes)
number_fits bytes fits = sfits_to_z {w = w64} {n = from_be_bytes w64 bytes} (record { fits = below bytes fits })

pub number_bytes : (bytes : List ℕ) → IsBytes bytes → length bytes ≡ 8 → value_bytes kind.Int (number bytes) ≡ bytes
number_bytes bytes fits len = ap (to_be_bytes w64) (of_z-to_z w64 (from_be_bytes w64 bytes) (below bytes fits)) ∙ be_bytes_8 bytes _ len fits refl

-- ---- values

-- a value of the column's type stands in the first n bytes
pub record IsFront (k : ColType) (bytes : List ℕ) (n : ℕ) : Type 0 where
  pub value : Value
  pub fits : FitsType k value
  pub spelt : take n bytes ≡ value_bytes k value
  pub within : n ≤ length bytes

pub guarded : (b : Bool) (o : Option ℕ) (n : ℕ) → cond b None o ≡ Some n → (b ≡ false) × (o ≡ Some n)
guarded true o n e = absurd cc
guarded false o n e = (refl, e)

front_at : (k : ColType) (bytes : List ℕ) (m n : ℕ) → m ≡ n → IsFront k bytes m → IsFront k bytes n
front_at k bytes m n e front = subst (λ (x : ℕ). IsFront k bytes x) e front

pub value_found : (k : ColType) (bytes : List ℕ) (n : ℕ) → IsBytes bytes → value_length k bytes ≡ Some n → IsFront k bytes n
unfolding value_length
value_found kind.Int bytes n fits e =
    let g = guarded (ltb (length bytes) 8) (Some 8) n e in
    let long : 8 ≤ length bytes = ltb-false _ _ g.0 in
    let front = IsBytes-take 8 bytes fits in
    front_at kind.Int bytes 8 n (same_Some 8 n g.1) (record {
      value = number (take 8 bytes);
      fits = number_fits (take 8 bytes) front;
      spelt = sym (number_bytes (take 8 bytes) front (omega (arith, length-take 8 bytes)));
      within = long;
    })
value_found kind.Text [] n fits e = absurd cc
value_found kind.Text (m ∷ rest) n fits e =
    let g = guarded (ltb (length rest) m) (cond (is_utf8 (take m rest)) (Some (suc m)) None) n e in
    let long : m ≤ length rest = ltb-false _ _ g.0 in
    let u = cond_some (is_utf8 (take m rest)) (suc m) n g.1 in
    let len : length (take m rest) ≡ m = omega (arith, length-take m rest) in
    front_at kind.Text (m ∷ rest) (suc m) n u.1 (record {
      value = Text (take m rest);
      fits = record { short = omega (arith, fits 0); utf8 = IsUtf8-from_is_utf8 (take m rest) u.0 };
      spelt = ap (λ (x : ℕ). x ∷ take m rest) (sym len);
      within = omega arith;
    })

pub value_front : (k : ColType) (v : Value) (rest : List ℕ) → FitsType k v → value_length k (value_bytes k v ++ rest) ≡ Some (length (value_bytes k v))
unfolding value_length
value_front kind.Int (Int x) rest fits =
    let long : ltb (length (to_be_bytes w64 (cast_unsigned w64 x) ++ rest)) 8 ≡ false = le-ltb _ _ (omega (arith, length-append (to_be_bytes w64 (cast_unsigned w64 x)) rest)) in
    rw long refl
value_front kind.Int (Text _) rest fits = absurd fits
value_front kind.Text (Int _) rest fits = absurd fits
value_front kind.Text (Text bytes) rest fits =
    let long : ltb (length (bytes ++ rest)) (length bytes) ≡ false = le-ltb _ _ (omega (arith, length-append bytes rest)) in
    rw (long, take_at bytes rest (length bytes) refl, is_utf8-from_IsUtf8 bytes fits.utf8) refl

abbrev no_length : Option ℕ
no_length = None

collapsed : (b : Bool) → cond b no_length no_length ≡ no_length
collapsed true = refl
collapsed false = refl

-- the value of `&s[n..]`
pub rest_of : {X : Type 0} (n : ℕ) (s : List X) → take (length s - n) (drop n s) ≡ drop n s
rest_of n s = take_all (length s - n) (drop n s) (omega (arith, length-drop n s))

-- what stands at the front of a column of texts
pub text_short : (bytes : List ℕ) → 1 ≤ length bytes → length (drop 1 bytes) < get_or bytes 0 0 → value_length kind.Text bytes ≡ None
unfolding value_length
text_short [] some short = absurd (omega arith)
text_short (m ∷ rest) some short = rw (lt-ltb _ _ short) refl

pub text_length : (bytes : List ℕ) → 1 ≤ length bytes → get_or bytes 0 0 ≤ length (drop 1 bytes) → IsTextValue (take (get_or bytes 0 0) (drop 1 bytes)) → value_length kind.Text bytes ≡ Some (1 + get_or bytes 0 0)
unfolding value_length
text_length [] some within text = absurd (omega arith)
text_length (m ∷ rest) some within text = rw (le-ltb _ _ within, is_utf8-from_IsUtf8 (take m rest) text.utf8) (ap Some (omega arith))

pub text_none : (bytes : List ℕ) → 1 ≤ length bytes → get_or bytes 0 0 ≤ 255 → (IsTextValue (take (get_or bytes 0 0) (drop 1 bytes)) → ⊥) → value_length kind.Text bytes ≡ None
unfolding value_length
text_none [] some short never = absurd (omega arith)
text_none (m ∷ rest) some short never =
    let utf8 : is_utf8 (take m rest) ≡ false = false_from_ne_true _ (λ is. never (record { short = omega (arith, length-take m rest); utf8 = IsUtf8-from_is_utf8 (take m rest) is })) in
    rw utf8 (collapsed (ltb (length rest) m))

-- the value with which a column's bytes begin
pub value_again : (k : ColType) (v : Value) (rest : List ℕ) → FitsType k v → value_spelled k (value_bytes k v ++ rest) ≡ v
value_again kind.Int (Int x) rest fits =
    let n = cast_unsigned w64 x in
    let back : from_be_bytes w64 (to_be_bytes w64 n) ≡ n = from_be_bytes-to_be_bytes_8 n (Fits-of_z fits).fits in
    ap number (take_at (to_be_bytes w64 n) rest 8 refl) ∙ ap (λ (m : ℕ). Int (cast_signed w64 m)) back ∙ ap Int (to_z-of_z w64 x fits)
value_again kind.Int (Text _) rest fits = absurd fits
value_again kind.Text (Int _) rest fits = absurd fits
value_again kind.Text (Text bytes) rest fits = ap Text (take_at bytes rest (length bytes) refl)

-- bytes begin with one value at most
value_same : (k : ColType) (v w : Value) (r s : List ℕ) → FitsType k v → FitsType k w → value_bytes k v ++ r ≡ value_bytes k w ++ s → (v ≡ w) × (r ≡ s)
value_same k v w r s fits fits' e =
    let same : v ≡ w = sym (value_again k v r fits) ∙ ap (value_spelled k) e ∙ value_again k w s fits' in
    let n = length (value_bytes k v) in
    (same, sym (drop_at (value_bytes k v) r n refl) ∙ ap (drop n) e ∙ drop_at (value_bytes k w) s n (ap (λ (x : Value). length (value_bytes k x)) (sym same)))

-- ---- rows

-- two rows of a schema never have the same bytes
pub spelling_same : (cs : List Column) (vs ws : List Value) → RowFits cs vs → RowFits cs ws → row_bytes cs vs ≡ row_bytes cs ws → vs ≡ ws
spelling_same [] [] [] _ _ e = refl
spelling_same [] [] (_ ∷ _) _ fits e = absurd fits
spelling_same [] (_ ∷ _) _ fits _ e = absurd fits
spelling_same (_ ∷ _) [] _ fits _ e = absurd fits
spelling_same (_ ∷ _) (_ ∷ _) [] _ fits e = absurd fits
spelling_same (c ∷ cs) (v ∷ vs) (w ∷ ws) fits fits' e =
    let front = value_same c.kind v w (row_bytes cs vs) (row_bytes cs ws) fits.0 fits'.0 e in
    let rest : vs ≡ ws = spelling_same cs vs ws fits.1 fits'.1 front.1 in
    let first = front.0 in
    cc

-- behind a row's bytes there is nothing but what is left over
pub row_end : (at : ℕ) (cs : List Column) (vs : List Value) (rest : List ℕ) → RowFits cs vs → fault_from at cs (row_bytes cs vs ++ rest) ≡ fault_from (at + length (row_bytes cs vs)) [] rest
unfolding fault_from
row_end at [] [] rest fits = ap (λ (x : ℕ). fault_from x [] rest) (sym (add-zero at))
row_end at [] (_ ∷ _) rest fits = absurd fits
row_end at (_ ∷ _) [] rest fits = absurd fits
row_end at (c ∷ cs) (v ∷ vs) rest fits =
    let first = value_bytes c.kind v in
    let others = row_bytes cs vs in
    let n = length first in
    let total : at + n + length others ≡ at + length (first ++ others) = omega (arith, length-append first others) in
    ap (fault_from at (c ∷ cs)) (append_assoc first others rest)
    ∙ ap (λ (o : Option ℕ). behind at o (λ m. fault_from (at + m) cs (drop m (first ++ (others ++ rest))))) (value_front c.kind v (others ++ rest) fits.0)
    ∙ ap (fault_from (at + n) cs) (drop_at first (others ++ rest) n refl)
    ∙ row_end (at + n) cs vs rest fits.1
    ∙ ap (λ (x : ℕ). fault_from x [] rest) total

pub spelling_faultless : (at : ℕ) (cs : List Column) (bytes : List ℕ) → IsSpelling cs bytes → fault_from at cs bytes ≡ None
unfolding fault_from
spelling_faultless at cs bytes is =
    ap (fault_from at cs) (is.spelt ∙ sym (append-nil (row_bytes cs is.row))) ∙ row_end at cs is.row [] is.fits

-- bytes with a fault spell nothing
pub is_fault : {P : Type 0} {cs : List Column} {bytes : List ℕ} {byte : ℕ} → row_fault cs bytes ≡ Some byte → IsSpelling cs bytes → P
is_fault {P} {cs} {bytes} {byte} fault is =
    let none = spelling_faultless 0 cs bytes is in
    absurd cc

ended : (at : ℕ) (rest : List ℕ) → fault_from at [] rest ≡ None → rest ≡ []
unfolding fault_from
ended at [] e = refl
ended at (_ ∷ _) e = absurd cc

-- no spelling begins another
pub spelling_alone : (cs : List Column) (bytes rest : List ℕ) → IsSpelling cs bytes → IsSpelling cs (bytes ++ rest) → rest ≡ []
spelling_alone cs bytes rest is longer =
    let n = length (row_bytes cs is.row) in
    ended (0 + n) rest (sym (row_end 0 cs is.row rest is.fits) ∙ ap (λ (x : List ℕ). fault_from 0 cs (x ++ rest)) (sym is.spelt) ∙ spelling_faultless 0 cs (bytes ++ rest) longer)

goes_on : (at : ℕ) (o : Option ℕ) (next : ℕ → Option ℕ) → behind at o next ≡ None → (n : ℕ) × (o ≡ Some n) × (next n ≡ None)
goes_on at None next e = absurd cc
goes_on at (Some n) next e = (n, refl, e)

pub join : {a b x y : List ℕ} → a ≡ x → b ≡ y → a ++ b ≡ x ++ y
join e f = cc

-- bytes without a fault spell a row
pub row_found : (at : ℕ) (cs : List Column) (bytes : List ℕ) → IsBytes bytes → fault_from at cs bytes ≡ None → IsSpelling cs bytes
unfolding fault_from
row_found at [] [] fits e = record { row = []; fits = tt; spelt = refl }
row_found at [] (_ ∷ _) fits e = absurd cc
row_found at (c ∷ cs) bytes fits e =
    let g = goes_on at (value_length c.kind bytes) (λ n. fault_from (at + n) cs (drop n bytes)) e in
    let n = g.0 in
    let front = value_found c.kind bytes n fits g.1 in
    let rest = row_found (at + n) cs (drop n bytes) (IsBytes-drop n bytes fits) g.2 in
    let parts : take n bytes ++ drop n bytes ≡ value_bytes c.kind front.value ++ row_bytes cs rest.row = join front.spelt rest.spelt in
    record { row = front.value ∷ rest.row; fits = (front.fits, rest.fits); spelt = sym (take-append-drop n bytes) ∙ parts }
