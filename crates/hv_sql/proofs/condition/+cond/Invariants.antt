-- A depth falls where a term nests; what is still read behind a list gives what was to be read.
use Rattle.std.proofs.Common.{◌≡◌, [], ◌∷◌, ◌+◌, ◌*◌}
use Rattle.hv_model.specs.declared.lexeme.Kind.TheVariants as kinds
use Rattle.hv_model.specs.Reading.{more_at, more_up_to_at}
use Rattle.hv_model.specs.SqlReading.{keyword_at, conj_at, term_at}
use Rattle.hv_sql.specs.Code.{with_front}
use Rattle.hv_model.specs.declared.lexeme.Keyword.TheVariants as k
use Rattle.hv_sql.proofs.condition.+cond.Given as goal

abbrev pub decreases-term : goal.decreases-term
decreases-term l = 6 * l.depth

abbrev pub decreases-more_terms : goal.decreases-more_terms
decreases-more_terms l = 6 * l.depth + 1

abbrev pub decreases-conj : goal.decreases-conj
decreases-conj l = 6 * l.depth + 2

abbrev pub decreases-more_conjs : goal.decreases-more_conjs
decreases-more_conjs l = 6 * l.depth + 3

abbrev pub decreases-cond : goal.decreases-cond
decreases-cond l = 6 * l.depth + 4

abbrev pub decreases-deeper : goal.decreases-deeper
decreases-deeper l = 6 * l.depth + 5

abbrev pub invariant-more_terms-loop-left : goal.invariant-more_terms-loop-left
invariant-more_terms-loop-left l =
    with_front l.list (more_up_to_at l.left (kinds.Keyword k.And) (keyword_at k.And) (term_at l.fn.depth) l.rest)
    ≡ with_front (l.fn.first ∷ []) (more_at (kinds.Keyword k.And) (keyword_at k.And) (term_at l.fn.depth) l.fn.lexemes)

abbrev pub decreases-more_terms-loop-left : goal.decreases-more_terms-loop-left
decreases-more_terms-loop-left l = l.left

abbrev pub invariant-more_conjs-loop-left : goal.invariant-more_conjs-loop-left
invariant-more_conjs-loop-left l =
    with_front l.list (more_up_to_at l.left (kinds.Keyword k.Or) (keyword_at k.Or) (conj_at (term_at l.fn.depth)) l.rest)
    ≡ with_front (l.fn.first ∷ []) (more_at (kinds.Keyword k.Or) (keyword_at k.Or) (conj_at (term_at l.fn.depth)) l.fn.lexemes)

abbrev pub decreases-more_conjs-loop-left : goal.decreases-more_conjs-loop-left
decreases-more_conjs-loop-left l = l.left
