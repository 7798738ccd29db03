-- One more byte changes the flag where it is a quote.
use Rattle.std.proofs.Common.{◌≡◌, ◌∙◌, ◌+◌, ap, sym, false, Some, take, get_or, arith}
use Rattle.hv_model.specs.Script.{quoted_behind}
use Rattle.hv_script.proofs.TextEnd.{quoted_more, quote_step, mark_step, plain_step}
use Rattle.hv_script.proofs.text.text_len.Goals as goal
use Rattle.hv_script.proofs.text.text_len.Goals.{then-byte-eq39, else-byte-eq39+else-byte-eq59, else-byte-eq59-via-then-byte-eq59+else-not-quoted, else-byte-eq59-via-else-byte-eq59}

pub loop-at-preserved : goal.loop-at-preserved
loop-at-preserved c =
    let b = get_or c.args.bytes.now c.loop-at.at 0 in
    let more = quoted_more c.loop-at.quoted c.args.bytes.now c.loop-at.at (omega arith) c.loop-at.invariant in
    let P = quoted_behind false (take (c.loop-at.at + 1) c.args.bytes.now) ≡ Some c.if-byte-eq39.quoted in
    elim c.if-byte-eq39.branch as (λ _. P) [
      | then-byte-eq39 w ↦ more ∙ quote_step _ b w.if-byte-eq39.true ∙ ap Some (sym w.quoted-is)
      | else-byte-eq39+else-byte-eq59 w ↦ elim w.else-byte-eq59.branch as (λ _. P) [
        | else-byte-eq59-via-then-byte-eq59+else-not-quoted v ↦ more ∙ mark_step _ b v.if-byte-eq59.true v.if-not-quoted.false ∙ ap Some (sym w.quoted-is)
        | else-byte-eq59-via-else-byte-eq59 v ↦ more ∙ plain_step _ b w.if-byte-eq39.false v.if-byte-eq59.false ∙ ap Some (sym w.quoted-is)
      ]
    ]
