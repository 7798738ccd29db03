-- Lines, byte by byte.
use Rattle.std.proofs.Common.{◌≡◌, ℕ, ◌+◌, ◌<◌, Bool, true, false, not, cond, eqb, List, [], ◌∷◌, ◌++◌, length, take, get_or, refl, ◌∙◌, arith}
use Rattle.std.proofs.lemmas.List.{take_more}
use Rattle.std.specs.List.{onto_first}
use Rattle.hv_model.specs.Script.{line_list, ends_line}

-- whether bytes end within a line
abbrev pub open_line : List ℕ → Bool
open_line [] = false
open_line (b ∷ []) = not (eqb b 10)
open_line (b ∷ c ∷ bs) = open_line (c ∷ bs)

-- one byte is a line
pub line_one : (b : ℕ) → length (line_list (b ∷ [])) ≡ 1
line_one b = elim (eqb b 10) as (λ v. length (cond v ([] ∷ []) (onto_first b [])) ≡ 1) [ true ↦ refl | false ↦ refl ]

-- a byte before others begins a line where it is a line feed
length_onto : (b : ℕ) (lines : List (List ℕ)) → 0 < length lines → length (onto_first b lines) ≡ length lines
length_onto b [] h = absurd (omega arith)
length_onto b (x ∷ xs) h = refl

pub some_lines : (b : ℕ) (bs : List ℕ) → 0 < length (line_list (b ∷ bs))
some_lines b bs = elim (eqb b 10) as (λ v. 0 < length (cond v ([] ∷ line_list bs) (onto_first b (line_list bs)))) [
  | true ↦ omega arith
  | false ↦ elim (line_list bs) as (λ ls. 0 < length (onto_first b ls)) [ [] ↦ omega arith | x ∷ xs ↦ omega arith ]
]

pub line_cons : (b c : ℕ) (bs : List ℕ) → length (line_list (b ∷ c ∷ bs)) ≡ cond (eqb b 10) 1 0 + length (line_list (c ∷ bs))
line_cons b c bs = elim (eqb b 10) as (λ v. length (cond v ([] ∷ line_list (c ∷ bs)) (onto_first b (line_list (c ∷ bs)))) ≡ cond v 1 0 + length (line_list (c ∷ bs))) [
  | true ↦ omega arith
  | false ↦ let e : length (onto_first b (line_list (c ∷ bs))) ≡ length (line_list (c ∷ bs)) = length_onto b (line_list (c ∷ bs)) (some_lines c bs) in omega arith
]

-- one more byte begins a line where none is open
pub lines_push : (xs : List ℕ) (b : ℕ) → length (line_list (xs ++ b ∷ [])) ≡ length (line_list xs) + cond (open_line xs) 0 1
lines_push [] b = line_one b ∙ omega arith
lines_push (x ∷ []) b =
    elim (eqb x 10) as (λ v. length (line_list (x ∷ b ∷ [])) ≡ cond v 1 0 + length (line_list (b ∷ [])) → length (line_list (x ∷ b ∷ [])) ≡ length (line_list (x ∷ [])) + cond (not v) 0 1) [
      | true ↦ λ e. omega (arith, line_one b, line_one x)
      | false ↦ λ e. omega (arith, line_one b, line_one x)
    ] (line_cons x b [])
lines_push (x ∷ y ∷ ys) b = omega (arith, line_cons x y ys, line_cons x y (ys ++ b ∷ []), lines_push (y ∷ ys) b)

pub open_push : (xs : List ℕ) (b : ℕ) → open_line (xs ++ b ∷ []) ≡ not (eqb b 10)
open_push [] b = refl
open_push (x ∷ []) b = refl
open_push (x ∷ y ∷ ys) b = open_push (y ∷ ys) b

-- bytes that end within no line end a line
pub not_open : (xs : List ℕ) → open_line xs ≡ false → 0 < length xs → ends_line xs ≡ true
not_open [] e h = absurd (omega arith)
not_open (x ∷ []) e h = elim (eqb x 10) as (λ v. not v ≡ false → v ≡ true) [ true ↦ λ _. refl | false ↦ λ h. cc ] e
not_open (x ∷ y ∷ ys) e h = not_open (y ∷ ys) e (omega arith)

-- one more byte of a list
pub lines_more : (bytes : List ℕ) (i : ℕ) → i < length bytes → length (line_list (take (i + 1) bytes)) ≡ length (line_list (take i bytes)) + cond (open_line (take i bytes)) 0 1
lines_more bytes i h = rw (take_more bytes i 0) (lines_push (take i bytes) (get_or bytes i 0))

pub open_more : (bytes : List ℕ) (i : ℕ) → i < length bytes → open_line (take (i + 1) bytes) ≡ not (eqb (get_or bytes i 0) 10)
open_more bytes i h = rw (take_more bytes i 0) (open_push (take i bytes) (get_or bytes i 0))

-- lines that are all closed
pub closed_lines : (xs : List ℕ) (n : ℕ) → 0 < n → length (line_list xs) ≡ n → open_line xs ≡ false → ends_line xs ≡ true
closed_lines [] n h e o = absurd (omega arith)
closed_lines (x ∷ xs) n h e o = not_open (x ∷ xs) o (omega arith)
