-- Eight bytes in one number: each is ASCII where none of their high bits is set.
use Rattle.std.proofs.Common.{◌≡◌, ℕ, zero, suc, ◌+◌, ◌*◌, ◌<◌, List, get_or, refl, sym, ap, ◌∙◌, arith, bit_and}
use Rattle.std.specs.Int.{bit_at}
use Rattle.std.proofs.lemmas.Nat.Bits.{bit_at_and, bit_at-zero, bit_at-lt}

clear : (w m i : ℕ) → bit_and w m ≡ 0 → bit_at m i ≡ 1 → bit_at w i ≡ 0
clear w m i none one =
    let e = sym (bit_at_and w m i) ∙ ap (λ (x : ℕ). bit_at x i) none ∙ bit_at-zero i in
    omega (arith, e, one, bit_at-lt w i)

-- the eight bytes from a place on, the first of them lowest
abbrev pub word_of : List ℕ → ℕ → ℕ
word_of bytes at =
    get_or bytes (at + 0) 0 + 256 * get_or bytes (at + 1) 0 + 65536 * get_or bytes (at + 2) 0 + 16777216 * get_or bytes (at + 3) 0
    + 4294967296 * get_or bytes (at + 4) 0 + 1099511627776 * get_or bytes (at + 5) 0 + 281474976710656 * get_or bytes (at + 6) 0 + 72057594037927936 * get_or bytes (at + 7) 0

pub word_ascii : (bytes : List ℕ) (at w : ℕ) → ((i : ℕ) → get_or bytes i 0 < 256) → w ≡ word_of bytes at → bit_and w 9259542123273814144 ≡ 0 → (i : ℕ) → i < 8 → get_or bytes (at + i) 0 < 128
word_ascii bytes at w fits is none zero lt = omega (arith, is, clear w 9259542123273814144 7 none refl, fits (at + 0))
word_ascii bytes at w fits is none (suc zero) lt = omega (arith, is, clear w 9259542123273814144 15 none refl, fits (at + 0), fits (at + 1))
word_ascii bytes at w fits is none (suc (suc zero)) lt = omega (arith, is, clear w 9259542123273814144 23 none refl, fits (at + 0), fits (at + 1), fits (at + 2))
word_ascii bytes at w fits is none (suc (suc (suc zero))) lt = omega (arith, is, clear w 9259542123273814144 31 none refl, fits (at + 0), fits (at + 1), fits (at + 2), fits (at + 3))
word_ascii bytes at w fits is none (suc (suc (suc (suc zero)))) lt = omega (arith, is, clear w 9259542123273814144 39 none refl, fits (at + 0), fits (at + 1), fits (at + 2), fits (at + 3), fits (at + 4))
word_ascii bytes at w fits is none (suc (suc (suc (suc (suc zero))))) lt = omega (arith, is, clear w 9259542123273814144 47 none refl, fits (at + 0), fits (at + 1), fits (at + 2), fits (at + 3), fits (at + 4), fits (at + 5))
word_ascii bytes at w fits is none (suc (suc (suc (suc (suc (suc zero)))))) lt = omega (arith, is, clear w 9259542123273814144 55 none refl, fits (at + 0), fits (at + 1), fits (at + 2), fits (at + 3), fits (at + 4), fits (at + 5), fits (at + 6))
word_ascii bytes at w fits is none (suc (suc (suc (suc (suc (suc (suc zero))))))) lt = omega (arith, is, clear w 9259542123273814144 63 none refl, fits (at + 0), fits (at + 1), fits (at + 2), fits (at + 3), fits (at + 4), fits (at + 5), fits (at + 6), fits (at + 7))
word_ascii bytes at w fits is none (suc (suc (suc (suc (suc (suc (suc (suc i)))))))) lt = absurd (omega (arith, lt))
