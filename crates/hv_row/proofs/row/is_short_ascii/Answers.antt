use Rattle.std.proofs.Common.{◌≡◌, ℕ, ◌+◌, ◌-◌, ◌<◌, List, length, get_or, subst, arith, inl, inr}
use Rattle.std.proofs.lemmas.Bool.{cases_lt, and_parts}
use Rattle.std.proofs.lemmas.Str.{IsUtf8-from_ascii}
use Rattle.std.proofs.lemmas.Str.Ascii.{IsAscii-from_reads}
use Rattle.hv_row.proofs.row.is_short_ascii.Goals as goal

at_place : (bytes : List ℕ) (p q : ℕ) → p ≡ q → get_or bytes p 0 < 128 → get_or bytes q 0 < 128
at_place bytes p q e lt = subst (λ (x : ℕ). get_or bytes x 0 < 128) e lt

pub returns : goal.returns
returns c = λ yes.
    let bytes = c.args.bytes.now in
    let long = length bytes in
    let words = and_parts c.is_ascii_word.result c.is_ascii_word-2.result yes in
    record {
      short = omega arith;
      utf8 = IsUtf8-from_ascii bytes (IsAscii-from_reads bytes long (omega arith) (λ k lt. elim (cases_lt k 8) [
        | inl first ↦ at_place bytes (0 + k) k (omega arith) (c.is_ascii_word.ensures words.0 k first)
        | inr later ↦ at_place bytes (long - 8 + (k - (long - 8))) k (omega arith) (c.is_ascii_word-2.ensures words.1 (k - (long - 8)) (omega arith))
      ]));
    }
