-- What is still read behind the list gives what was to be read.
use Rattle.std.proofs.Common.{◌≡◌, [], ◌∷◌}
use Rattle.hv_model.specs.declared.lexeme.Kind.TheVariants as kinds
use Rattle.hv_model.specs.Reading.{more_up_to_at}
use Rattle.hv_model.specs.SqlReading.{symbol_at}
use Rattle.hv_sql.specs.Code.{with_front}
use Rattle.hv_model.specs.declared.lexeme.Symbol.TheVariants.{Comma}
use Rattle.hv_sql.proofs.rule.more.Given as goal

abbrev pub invariant-loop-left : goal.invariant-loop-left
invariant-loop-left g l =
    with_front l.list (more_up_to_at l.left (kinds.Symbol Comma) (symbol_at Comma) g.T.Rule.reader l.rest)
    ≡ with_front (l.fn.first ∷ []) (more_up_to_at l.fn.room (kinds.Symbol Comma) (symbol_at Comma) g.T.Rule.reader l.fn.lexemes)

abbrev pub decreases-loop-left : goal.decreases-loop-left
decreases-loop-left g l = l.left
