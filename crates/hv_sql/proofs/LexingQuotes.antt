-- Up to which byte a text goes, byte by byte.
use Rattle.std.proofs.Common.{◌≡◌, ℕ, ◌+◌, ◌-◌, ◌<◌, ◌≤◌, zero, suc, Bool, true, false, not, List, [], ◌∷◌, ◌++◌, length, take, drop, get_or, refl, ap, sym, ◌∙◌, subst, inl, inr, append_assoc, append-nil, arith, ne_eqb, take-add}
use Rattle.std.proofs.lemmas.Bool.{cases_lt, false≢true}
use Rattle.std.proofs.lemmas.List.{take_more, drop_more}
use Rattle.hv_model.specs.Lexemes.{closes}

-- the first bytes leave us with `pending`, and of them a text goes up to `end`
pub record SoFar (bytes : List ℕ) (at end : ℕ) (pending : Bool) : Type 0 where
  pub state : (ys : List ℕ) → closes false (take at bytes ++ ys) ≡ closes pending ys
  pub within : end ≤ at
  pub here : pending ≡ true → end ≡ at
  pub closed : 0 < end → closes false (take end bytes) ≡ true
  pub longest : (n : ℕ) → end < n → n ≤ at → closes false (take n bytes) ≡ false

pub so_far_none : (bytes : List ℕ) → SoFar bytes 0 0 false
so_far_none bytes = record {
  state = λ ys. refl;
  within = omega arith;
  here = λ e. absurd (false≢true e);
  closed = λ some. absurd (omega arith);
  longest = λ n lt le. absurd (omega arith);
}

state_next : (bytes : List ℕ) (i : ℕ) (p q : Bool) → i < length bytes → ((ys : List ℕ) → closes false (take i bytes ++ ys) ≡ closes p ys)
    → ((ys : List ℕ) → closes p (get_or bytes i 0 ∷ ys) ≡ closes q ys) → (ys : List ℕ) → closes false (take (i + 1) bytes ++ ys) ≡ closes q ys
state_next bytes i p q lt state step ys =
    let b = get_or bytes i 0 in
    ap (λ (xs : List ℕ). closes false (xs ++ ys)) (take_more bytes i 0 lt) ∙ ap (closes false) (append_assoc (take i bytes) (b ∷ []) ys) ∙ state (b ∷ ys) ∙ step ys

state_now : (bytes : List ℕ) (i : ℕ) (p : Bool) → ((ys : List ℕ) → closes false (take i bytes ++ ys) ≡ closes p ys) → closes false (take i bytes) ≡ p
state_now bytes i p state = ap (closes false) (sym (append-nil (take i bytes))) ∙ state []

quote_step : (b : ℕ) (p : Bool) → b ≡ 39 → (ys : List ℕ) → closes p (b ∷ ys) ≡ closes (not p) ys
quote_step b p e ys = ap (λ (x : ℕ). closes p (x ∷ ys)) e

plain_step : (b : ℕ) → (b ≡ 39 → ⊥) → (ys : List ℕ) → closes false (b ∷ ys) ≡ closes false ys
plain_step b ne ys = rw (ne_eqb b 39 ne) refl

plain_stop : (b : ℕ) → (b ≡ 39 → ⊥) → (ys : List ℕ) → closes true (b ∷ ys) ≡ false
plain_stop b ne ys = rw (ne_eqb b 39 ne) refl

-- what is longest so far stays it where the next byte closes nothing
longest_more : (bytes : List ℕ) (at end : ℕ) → ((n : ℕ) → end < n → n ≤ at → closes false (take n bytes) ≡ false) → closes false (take (at + 1) bytes) ≡ false
    → (n : ℕ) → end < n → n ≤ at + 1 → closes false (take n bytes) ≡ false
longest_more bytes at end past next n lt le = elim (cases_lt at n) [
  | inl more ↦
      let e : at + 1 ≡ n = omega arith in
      subst (λ (x : ℕ). closes false (take x bytes) ≡ false) e next
  | inr fewer ↦ past n lt fewer
]

-- a quote that may close the text
pub so_far_shut : (bytes : List ℕ) (at end : ℕ) → at < length bytes → get_or bytes at 0 ≡ 39 → SoFar bytes at end false → SoFar bytes (at + 1) (at + 1) true
so_far_shut bytes at end lt quote h =
    let next = state_next bytes at false true lt h.state (quote_step (get_or bytes at 0) false quote) in
    record {
      state = next;
      within = omega arith;
      here = λ _. refl;
      closed = λ _. state_now bytes (at + 1) true next;
      longest = λ n more le. absurd (omega arith);
    }

-- a byte with which the text goes on ends none
so_far_on : (bytes : List ℕ) (at end : ℕ) (pending : Bool) → ((ys : List ℕ) → closes false (take (at + 1) bytes ++ ys) ≡ closes false ys) → SoFar bytes at end pending → SoFar bytes (at + 1) end false
so_far_on bytes at end pending next h = record {
  state = next;
  within = let w = h.within in omega arith;
  here = λ e. absurd (false≢true e);
  closed = h.closed;
  longest = longest_more bytes at end h.longest (state_now bytes (at + 1) false next);
}

-- the second of two quotes
pub so_far_again : (bytes : List ℕ) (at end : ℕ) → at < length bytes → get_or bytes at 0 ≡ 39 → SoFar bytes at end true → SoFar bytes (at + 1) end false
so_far_again bytes at end lt quote h = so_far_on bytes at end true (state_next bytes at true false lt h.state (quote_step (get_or bytes at 0) true quote)) h

-- a byte that is no quote
pub so_far_plain : (bytes : List ℕ) (at end : ℕ) → at < length bytes → (get_or bytes at 0 ≡ 39 → ⊥) → SoFar bytes at end false → SoFar bytes (at + 1) end false
so_far_plain bytes at end lt ne h = so_far_on bytes at end false (state_next bytes at false false lt h.state (plain_step (get_or bytes at 0) ne)) h

stop_at : (rest : List ℕ) (k b : ℕ) (bs : List ℕ) → rest ≡ b ∷ bs → (b ≡ 39 → ⊥) → 0 < k → closes true (take k rest) ≡ false
stop_at rest zero b bs e ne some = absurd (omega arith)
stop_at rest (suc k) b bs e ne some = ap (λ (x : List ℕ). closes true (take (suc k) x)) e ∙ plain_stop b ne (take k bs)

-- behind a byte that is no quote nothing closes the text, if a quote stands in front of it that isn't the second of two
pub so_far_stop : (bytes : List ℕ) (at end : ℕ) → at < length bytes → (get_or bytes at 0 ≡ 39 → ⊥) → SoFar bytes at end true
    → (n : ℕ) → end < n → n ≤ length bytes → closes false (take n bytes) ≡ false
so_far_stop bytes at end lt ne h n more le =
    let e = h.here refl in
    let k = n - at in
    let sum : n ≡ at + k = omega arith in
    let parts : take n bytes ≡ take at bytes ++ take k (drop at bytes) = ap (λ (x : ℕ). take x bytes) sum ∙ take-add at k bytes in
    ap (closes false) parts ∙ h.state (take k (drop at bytes)) ∙ stop_at (drop at bytes) k (get_or bytes at 0) (drop (at + 1) bytes) (drop_more bytes at 0 lt) ne (omega arith)
