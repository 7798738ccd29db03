-- A text and its lines are no longer than the bytes that they are cut off.
use Rattle.std.proofs.Common.{◌≡◌, ℕ, zero, suc, ◌+◌, ◌≤◌, true, false, ◌||◌, cond, eqb, List, [], ◌∷◌, ◌++◌, length, Option, Some, None, refl, ◌∙◌, ap, arith, length-append}
use Rattle.hv_model.specs.Parsed.{lines_wanted}
use Rattle.hv_model.specs.Script.{Cut, Takes, TakesLines, data_behind, data_from, behind_gap, behind_return}

-- what is behind the rest of a line is no longer
length_return : (bytes data_bytes : List ℕ) → behind_return bytes ≡ Some data_bytes → length data_bytes ≤ length bytes
length_return [] d e = cc
length_return (b ∷ bs) d e =
    elim (eqb b 10) as (λ v. cond v (Some bs) None ≡ Some d → length d ≤ suc (length bs)) [
      | true ↦ λ h. let same : bs ≡ d = cc in let n : length bs ≡ length d = ap length same in omega arith
      | false ↦ λ h. cc
    ] e

length_gap : (bytes data_bytes : List ℕ) → behind_gap bytes ≡ Some data_bytes → length data_bytes ≤ length bytes
length_gap [] d e = cc
length_gap (b ∷ bs) d e =
    elim (eqb b 32 || eqb b 9) as (λ v. cond v (behind_gap bs) (cond (eqb b 13) (behind_return bs) (cond (eqb b 10) (Some bs) None)) ≡ Some d → length d ≤ suc (length bs)) [
      | true ↦ λ h. omega (arith, length_gap bs d h)
      | false ↦ elim (eqb b 13) as (λ v. cond v (behind_return bs) (cond (eqb b 10) (Some bs) None) ≡ Some d → length d ≤ suc (length bs)) [
        | true ↦ λ h. omega (arith, length_return bs d h)
        | false ↦ elim (eqb b 10) as (λ v. cond v (Some bs) None ≡ Some d → length d ≤ suc (length bs)) [
          | true ↦ λ h. let same : bs ≡ d = cc in let n : length bs ≡ length d = ap length same in omega arith
          | false ↦ λ h. cc
        ]
      ]
    ] e

length_from : (gap : Option (List ℕ)) (behind : List ℕ) → ((d : List ℕ) → gap ≡ Some d → length d ≤ length behind) → length (data_from gap behind) ≤ length behind
length_from None behind h = omega arith
length_from (Some d) behind h = h d refl

length_data : (behind : List ℕ) → length (data_behind behind) ≤ length behind
length_data behind = length_from (behind_gap behind) behind (length_gap behind)

-- what is behind a statement's lines is no longer than what is behind its `;`
pub length_after : (wanted : ℕ) (behind lines after : List ℕ) → TakesLines wanted behind lines after → length after ≤ length behind
length_after zero behind lines after t = let n : length after ≡ length behind = ap length (t.none refl).1 in omega arith
length_after (suc w) behind lines after t =
    let n : length (data_behind behind) ≡ length lines + length after = ap length (t.some (omega arith)) ∙ length-append lines after in
    omega (arith, length_data behind)

-- what stands behind blanks is no longer
pub behind_length : (bytes blanks from : List ℕ) → bytes ≡ blanks ++ from → length from ≤ length bytes
behind_length bytes blanks from e = let n : length bytes ≡ length blanks + length from = ap length e ∙ length-append blanks from in omega arith

-- a text, and what is left behind its lines
pub takes_length : (bytes after : List ℕ) (cut : Cut) → Takes bytes cut after → length cut.text + (1 + length after) ≤ length bytes
takes_length bytes after cut t =
    let whole : length (cut.text ++ 59 ∷ t.behind) ≡ length cut.text + (1 + length t.behind) = length-append cut.text (59 ∷ t.behind) ∙ omega arith in
    omega (arith, behind_length bytes t.blanks (cut.text ++ 59 ∷ t.behind) t.is, length_after (lines_wanted cut.text) t.behind cut.lines after t.data_lines)
