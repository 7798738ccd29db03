use Rattle.std.proofs.lemmas.Str.{IsUtf8-from_ascii}
use Rattle.hv_row.proofs.row.is_other_text.Goals as goal

pub returns-then-is_ascii : goal.returns-then-is_ascii
returns-then-is_ascii c =
    (λ _. record { short = c.if-bytes-le-MAX_TEXT_BYTES.true; utf8 = IsUtf8-from_ascii c.args.bytes.now c.if-is_ascii.ensures.cases }, λ _. c.if-is_ascii.true)
