-- Bytes are UTF-8, or have a longest front that is.
use Rattle.std.proofs.Common.{◌≡◌, ◌⊎◌, inl, inr, ⊎_elim, ℕ, zero, suc, ◌<◌, ◌≤◌, Bool, true, false, true≢false, List, length, take, IsUtf8, refl, sym, ◌∙◌, subst, arith, take_all}
use Rattle.std.specs.Str.{is_utf8, IsValidUpTo}
use Rattle.std.proofs.lemmas.Bool.{cases_lt}
use Rattle.std.proofs.lemmas.Str.{IsUtf8-nil, IsUtf8-from_is_utf8, is_utf8-from_IsUtf8}

-- of the fronts of at most so many bytes, the longest that is UTF-8
record LongestFront (bytes : List ℕ) (most : ℕ) : Type 0 where
  size : ℕ
  front : IsUtf8 (take size bytes)
  longest : (k : ℕ) → size < k → k ≤ most → ¬ (IsUtf8 (take k bytes))

one_longer : (bytes : List ℕ) (most : ℕ) (v : Bool) → is_utf8 (take (suc most) bytes) ≡ v → LongestFront bytes most → LongestFront bytes (suc most)
one_longer bytes most true e f = record { size = suc most; front = IsUtf8-from_is_utf8 (take (suc most) bytes) e; longest = λ k above within. absurd (omega arith) }
one_longer bytes most false e f = record {
  size = f.size;
  front = f.front;
  longest = λ k above within u. ⊎_elim
      (λ (top : most < k).
      let same : k ≡ suc most = omega arith in
      true≢false (sym (is_utf8-from_IsUtf8 _ (subst (λ n. IsUtf8 (take n bytes)) same u)) ∙ e))
      (λ (low : k ≤ most). f.longest k above low u)
      (cases_lt most k);
}

longest_front : (bytes : List ℕ) (most : ℕ) → LongestFront bytes most
longest_front bytes zero = record { size = 0; front = IsUtf8-nil; longest = λ k above within. absurd (omega arith) }
longest_front bytes (suc most) = one_longer bytes most (is_utf8 (take (suc most) bytes)) refl (longest_front bytes most)

-- a front that is no shorter than the bytes is the bytes
whole : (bytes : List ℕ) (k : ℕ) → length bytes ≤ k → IsUtf8 (take k bytes) → IsUtf8 bytes
whole bytes k h u = subst IsUtf8 (take_all k bytes h) u

not_whole : (bytes : List ℕ) (f : LongestFront bytes (length bytes)) → f.size < length bytes → ¬ (IsUtf8 bytes)
not_whole bytes f less u = f.longest (length bytes) less (omega arith) (subst IsUtf8 (sym (take_all (length bytes) bytes (omega arith))) u)

valid_up_to_front : (bytes : List ℕ) (f : LongestFront bytes (length bytes)) → f.size < length bytes → IsValidUpTo bytes f.size
valid_up_to_front bytes f less = record {
  short = less;
  front = f.front;
  longest = λ k above u. ⊎_elim
      (λ (past : length bytes < k). not_whole bytes f less (whole bytes k (omega arith) u))
      (λ (within : k ≤ length bytes). f.longest k above within u)
      (cases_lt (length bytes) k);
}

by_front : (bytes : List ℕ) (f : LongestFront bytes (length bytes)) → (f.size < length bytes) ⊎ (length bytes ≤ f.size) → (IsUtf8 bytes) ⊎ ((¬ (IsUtf8 bytes)) × ((n : ℕ) × IsValidUpTo bytes n))
by_front bytes f (inl less) = inr (not_whole bytes f less, (f.size, valid_up_to_front bytes f less))
by_front bytes f (inr all) = inl (whole bytes f.size all f.front)

pub utf8_or_front : (bytes : List ℕ) → (IsUtf8 bytes) ⊎ ((¬ (IsUtf8 bytes)) × ((n : ℕ) × IsValidUpTo bytes n))
utf8_or_front bytes = let f = longest_front bytes (length bytes) in by_front bytes f (cases_lt f.size (length bytes))
