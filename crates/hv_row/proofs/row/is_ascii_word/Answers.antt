use Rattle.std.proofs.Common.{◌≡◌, ℕ, get_or, ap, arith, add-zero}
use Rattle.std.proofs.lemmas.Bool.{eqb-true}
use Rattle.hv_row.proofs.Words.{word_ascii, word_of}
use Rattle.hv_row.proofs.row.is_ascii_word.Goals as goal

pub returns : goal.returns
returns c = λ yes.
    let bytes = c.args.bytes.now in
    let at = c.args.at in
    let word = c.from_le_bytes-word.result in
    let is : word ≡ word_of bytes at = omega (arith, c.from_le_bytes-word.ensures, ap (λ (place : ℕ). get_or bytes place 0) (add-zero at)) in
    word_ascii bytes at word (λ i. (c.type_inv.bytes i).fits) is (eqb-true _ _ yes)
