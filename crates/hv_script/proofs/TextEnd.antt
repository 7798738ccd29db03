-- Blanks and texts, byte by byte.
use Rattle.std.proofs.Common.{◌≡◌, ℕ, ◌+◌, ◌<◌, Bool, true, false, not, ◌&&◌, cond, eqb, List, [], ◌∷◌, ◌++◌, length, take, get_or, Some, None, refl, arith}
use Rattle.std.proofs.lemmas.List.{take_more}
use Rattle.std.proofs.lemmas.Bool.Decides.{nat_tests}
use Rattle.hv_model.specs.Script.{quoted_behind}

-- one more byte, where we know whether we are between quotes in front of it
pub quoted_push : (q r : Bool) (xs : List ℕ) (b : ℕ) → quoted_behind q xs ≡ Some r → quoted_behind q (xs ++ b ∷ []) ≡ quoted_behind r (b ∷ [])
quoted_push q r [] b e = let same : q ≡ r = cc in rw same refl
quoted_push q r (x ∷ xs) b e =
    elim (eqb x 39) as (λ v.
    cond v (quoted_behind (not q) xs) (cond (eqb x 59 && not q) None (quoted_behind q xs)) ≡ Some r
    → cond v (quoted_behind (not q) (xs ++ b ∷ [])) (cond (eqb x 59 && not q) None (quoted_behind q (xs ++ b ∷ []))) ≡ quoted_behind r (b ∷ [])) [
      | true ↦ λ h. quoted_push (not q) r xs b h
      | false ↦ elim (eqb x 59 && not q) as (λ v.
          cond v None (quoted_behind q xs) ≡ Some r → cond v None (quoted_behind q (xs ++ b ∷ [])) ≡ quoted_behind r (b ∷ [])) [
            | true ↦ λ h. cc
            | false ↦ λ h. quoted_push q r xs b h
          ]
    ] e

-- one more byte of a list
pub quoted_more : (r : Bool) (bytes : List ℕ) (i : ℕ) → i < length bytes → quoted_behind false (take i bytes) ≡ Some r
    → quoted_behind false (take (i + 1) bytes) ≡ quoted_behind r (get_or bytes i 0 ∷ [])
quoted_more r bytes i h e = rw (take_more bytes i 0) (quoted_push false r (take i bytes) (get_or bytes i 0) e)

-- what one byte does to the flag
pub quote_step : (r : Bool) (b : ℕ) → b ≡ 39 → quoted_behind r (b ∷ []) ≡ Some (not r)
quote_step r b e = rw e refl

pub mark_step : (r : Bool) (b : ℕ) → b ≡ 59 → r ≡ true → quoted_behind r (b ∷ []) ≡ Some r
mark_step r b e t = rw (e, t) refl

pub plain_step : (r : Bool) (b : ℕ) → (b ≡ 39 → ⊥) → (b ≡ 59 → ⊥) → quoted_behind r (b ∷ []) ≡ Some r
plain_step r b x y =
    let e : eqb b 39 ≡ false = grind (arith, nat_tests) in
    let f : eqb b 59 ≡ false = grind (arith, nat_tests) in
    rw (e, f) refl
