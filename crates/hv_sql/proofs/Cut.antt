-- A text that is cut where a token begins, or at its end: the tokens before the cut stay as they are before other bytes.
use Rattle.std.proofs.Common.{◌≡◌, ℕ, ◌+◌, ◌-◌, ◌<◌, ◌≤◌, zero, suc, false, List, [], ◌∷◌, ◌++◌, length, refl, ap, sym, ◌∙◌, subst, inl, inr, add-zero, arith}
use Rattle.std.proofs.lemmas.Bool.{cases_Bool, cond-true, cond-false}
use Rattle.hv_model.specs.declared.lexeme.Token.{Token}
use Rattle.hv_model.specs.Token.{is_white}
use Rattle.hv_model.specs.Lexemes.{token_length, token_at, tokens_from}
use Rattle.hv_sql.proofs.LexingLengths.{token_length_some, token_length_within}
use Rattle.hv_sql.proofs.Boundary.{Apart, token_again, token_kept}

-- each token has a byte or more and ends by this place
abbrev pub EndsBy : ℕ → List Token → Type 0
EndsBy end [] = Unit {0}
EndsBy end (t ∷ ts) = (t.from < t.to) × (t.to ≤ end) × EndsBy end ts

-- where the first token begins, or the end
abbrev pub starts_at : List Token → ℕ → ℕ
starts_at [] end = end
starts_at (t ∷ _) end = t.from

pub record Cut (at passed : ℕ) (xs : List ℕ) (front back : List Token) : Type 0 where
  pub left : List ℕ
  pub right : List ℕ
  pub is : xs ≡ left ++ right
  pub enough : passed ≤ length left
  pub place : starts_at back (at + length xs) ≡ at + length left
  pub ends : EndsBy (at + length left) front
  pub goes : (m : List ℕ) → Apart m → tokens_from at passed (left ++ m) ≡ front ++ tokens_from (at + length left) 0 m

next_to : (at n : ℕ) → at + 1 + n ≡ at + suc n
next_to at n = omega arith

-- nothing stands before the cut
cut_here : (xs : List ℕ) (at : ℕ) (back : List Token) → starts_at back (at + length xs) ≡ at → Cut at 0 xs [] back
cut_here xs at back e = record {
  left = [];
  right = xs;
  is = refl;
  enough = omega arith;
  place = e ∙ sym (add-zero at);
  ends = tt;
  goes = λ m a. ap (λ (n : ℕ). tokens_from n 0 m) (sym (add-zero at));
}

-- a byte of the token before, or a white one
cut_behind : (b : ℕ) (xs : List ℕ) (at passed passed' : ℕ) (front back : List Token) → Cut (at + 1) passed' xs front back → passed ≤ suc passed'
    → ((ys : List ℕ) → tokens_from at passed (b ∷ ys) ≡ tokens_from (at + 1) passed' ys) → Cut at passed (b ∷ xs) front back
cut_behind b xs at passed passed' front back c le step = record {
  left = b ∷ c.left;
  right = c.right;
  is = ap (λ (z : List ℕ). b ∷ z) c.is;
  enough = let more = c.enough in omega (arith, more, le);
  place = ap (starts_at back) (sym (next_to at (length xs))) ∙ c.place ∙ next_to at (length c.left);
  ends = subst (λ (z : ℕ). EndsBy z front) (next_to at (length c.left)) c.ends;
  goes = λ m a. step (c.left ++ m) ∙ c.goes m a ∙ ap (λ (z : ℕ). front ++ tokens_from z 0 m) (next_to at (length c.left));
}

-- a token before the cut
cut_token : (b : ℕ) (xs : List ℕ) (at : ℕ) (t : Token) (front back : List Token) → is_white b ≡ false → token_at at (b ∷ xs) ≡ t
    → Cut (at + 1) (token_length (b ∷ xs) - 1) xs front back → Cut at 0 (b ∷ xs) (t ∷ front) back
cut_token b xs at t front back dark same c =
    let n = token_length (b ∷ xs) in
    let some = token_length_some (b ∷ xs) in
    let more = c.enough in
    let is_n : n ≡ token_length (b ∷ (c.left ++ c.right)) = ap (λ (z : List ℕ). token_length (b ∷ z)) c.is in
    let fits : token_length (b ∷ (c.left ++ c.right)) ≤ suc (length c.left) = omega (arith, some, more, is_n) in
    let from : t.from ≡ at = ap (λ (x : Token). x.from) (sym same) in
    let to : t.to ≡ at + n = ap (λ (x : Token). x.to) (sym same) in
    record {
      left = b ∷ c.left;
      right = c.right;
      is = ap (λ (z : List ℕ). b ∷ z) c.is;
      enough = omega arith;
      place = ap (starts_at back) (sym (next_to at (length xs))) ∙ c.place ∙ next_to at (length c.left);
      ends = (omega (arith, some, from, to), omega (arith, some, more, to), subst (λ (z : ℕ). EndsBy z front) (next_to at (length c.left)) c.ends);
      goes = λ m a.
          let long : token_length (b ∷ (c.left ++ m)) ≡ n = token_again (b ∷ c.left) c.right m (omega arith) fits a ∙ sym is_n in
          let kept : token_at at (b ∷ (c.left ++ m)) ≡ t =
          token_kept at (b ∷ c.left) c.right m (omega arith) fits a ∙ ap (λ (z : List ℕ). token_at at (b ∷ z)) (sym c.is) ∙ same in
          cond-false (is_white b) (tokens_from (at + 1) 0 (c.left ++ m)) (token_at at (b ∷ (c.left ++ m)) ∷ tokens_from (at + 1) (token_length (b ∷ (c.left ++ m)) - 1) (c.left ++ m)) dark
          ∙ ap (λ (x : Token). x ∷ tokens_from (at + 1) (token_length (b ∷ (c.left ++ m)) - 1) (c.left ++ m)) kept
          ∙ ap (λ (k : ℕ). t ∷ tokens_from (at + 1) (k - 1) (c.left ++ m)) long
          ∙ ap (λ (ts : List Token). t ∷ ts) (c.goes m a ∙ ap (λ (z : ℕ). front ++ tokens_from z 0 m) (next_to at (length c.left)));
    }

pub cut : (xs : List ℕ) (at passed : ℕ) (front back : List Token) → passed ≤ length xs → tokens_from at passed xs ≡ front ++ back → Cut at passed xs front back
cut [] at zero [] [] le e = cut_here [] at [] (add-zero at)
cut [] at zero [] (t ∷ back) le e = absurd cc
cut [] at zero (t ∷ front) back le e = absurd cc
cut [] at (suc passed) front back le e = absurd (omega arith)
cut (b ∷ xs) at (suc passed) front back le e = cut_behind b xs at (suc passed) passed front back (cut xs (at + 1) passed front back (omega arith) e) (omega arith) (λ ys. refl)
cut (b ∷ xs) at zero front back le e = elim (cases_Bool (is_white b)) [
  | inl white ↦
      let step : (ys : List ℕ) → tokens_from at 0 (b ∷ ys) ≡ tokens_from (at + 1) 0 ys = λ ys. cond-true (is_white b) _ _ white in
      cut_behind b xs at 0 0 front back (cut xs (at + 1) 0 front back (omega arith) (sym (step xs) ∙ e)) (omega arith) step
  | inr dark ↦ token front back (sym (cond-false (is_white b) _ _ dark) ∙ e) dark (λ fs bs le' g. cut xs (at + 1) (token_length (b ∷ xs) - 1) fs bs le' g)
]
  where
    behind : List Token
    behind = tokens_from (at + 1) (token_length (b ∷ xs) - 1) xs

    heads : (t : Token) (ts : List Token) → token_at at (b ∷ xs) ∷ behind ≡ t ∷ ts → token_at at (b ∷ xs) ≡ t
    heads t ts f = cc

    tails : (t : Token) (ts : List Token) → token_at at (b ∷ xs) ∷ behind ≡ t ∷ ts → behind ≡ ts
    tails t ts f = cc

    token : (front back : List Token) → token_at at (b ∷ xs) ∷ behind ≡ front ++ back → is_white b ≡ false
        → ((fs bs : List Token) → token_length (b ∷ xs) - 1 ≤ length xs → behind ≡ fs ++ bs → Cut (at + 1) (token_length (b ∷ xs) - 1) xs fs bs) → Cut at 0 (b ∷ xs) front back
    token [] [] f dark again = absurd cc
    token [] (t ∷ back) f dark again = cut_here (b ∷ xs) at (t ∷ back) (ap (λ (x : Token). x.from) (sym (heads t back f)))
    token (t ∷ front) back f dark again =
        let within = token_length_within (b ∷ xs) (omega arith) in
        cut_token b xs at t front back dark (heads t (front ++ back) f) (again front back (omega (arith, within)) (tails t (front ++ back) f))
