use Rattle.std.proofs.Common.{◌≤◌, length, take, drop, sym, arith, refl, get_or}
use Rattle.hv_row.specs.Value.{IsTextValue}
use Rattle.hv_row.proofs.Reading.{rest_of, text_length, text_none, text_short}
use Rattle.hv_row.proofs.spelling.value_length.Goals.{then-rest-length-via-then-rest-length, then-rest-length-via-else-rest-length+then-not-is_text}
use Rattle.hv_row.proofs.spelling.value_length.Goals as goal

pub returns-then-rest-length-clause-same : goal.returns-then-rest-length-clause-same
returns-then-rest-length-clause-same c =
    let bytes = c.args.bytes.now in
    let rest = rest_of 1 bytes in
    rw c.in-Text.is (sym (elim c.then-rest-length.branch [
      | then-rest-length-via-then-rest-length w ↦ text_short bytes c.in-len1-up.len_at_least (rw rest at w.if-rest-length.true)
      | then-rest-length-via-else-rest-length+then-not-is_text w ↦ text_none bytes c.in-len1-up.len_at_least (omega (arith, c.type_inv.bytes 0)) (λ text. let is = w.if-not-is_text.ensures.1 (rw rest text) in absurd cc)
    ]))

pub returns-else-not-is_text-clause-same : goal.returns-else-not-is_text-clause-same
returns-else-not-is_text-clause-same c =
    let bytes = c.args.bytes.now in
    let rest = rest_of 1 bytes in
    let within : get_or bytes 0 0 ≤ length (drop 1 bytes) = rw rest at c.if-rest-length.false in
    let text : IsTextValue (take (get_or bytes 0 0) (drop 1 bytes)) = rw rest at (c.if-not-is_text.ensures.0 refl) in
    rw c.in-Text.is (sym (text_length bytes c.in-len1-up.len_at_least within text))
