-- The name stands alone, or no name does.
use Rattle.std.proofs.Common.{◌∷◌, ap, ◌∙◌}
use Rattle.hv_model.specs.Terminals.{word_of}
use Rattle.hv_sql.specs.Next.{lexeme_seen, what_seen}
use Rattle.hv_sql.specs.Marks.{one_word}
use Rattle.hv_sql.proofs.marking.last_name.Goals as goal

pub returns-in-Name : goal.returns-in-Name
returns-in-Name c =
    let next = c.in_ok-next.next in
    let alone = c.is_empty.ensures.0 c.if-is_empty.true in
    (next.byte, ap one_word (c.in_ok-next.ensures ∙ ap (λ z. lexeme_seen next ∷ z) alone) ∙ ap (λ w. word_of (what_seen w) next.byte) c.in-Name.is)
