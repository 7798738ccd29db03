-- Each turn reads one condition.
use Rattle.std.proofs.Common.{rules, ◌≡◌, [], ◌∷◌, ◌-◌, ◌<◌, true, ◌++◌, ◌∙◌, sym, ap}
use Rattle.std.specs.Prelude.{Ok}
use Rattle.hv_model.specs.declared.lexeme.Kind.TheVariants as kinds
use Rattle.hv_model.specs.Reading.{next_is, more_up_to_at}
use Rattle.hv_model.specs.SqlReading.{keyword_at, conj_at, term_at}
use Rattle.hv_sql.specs.Code.{with_front}
use Rattle.hv_model.specs.declared.lexeme.Keyword.TheVariants as k
use Rattle.hv_sql.proofs.Loops.{one_more}
use Rattle.hv_sql.proofs.condition.+cond.Goals as goal

pub more_conjs-loop-left-preserved : goal.more_conjs-loop-left-preserved
more_conjs-loop-left-preserved t c =
    let some : 0 < c.loop-left.left = search rules in
    let word : next_is (kinds.Keyword k.Or) c.loop-left.rest ≡ true = cc in
    let taken : keyword_at k.Or c.loop-left.rest ≡ Ok (c.in_ok-behind.field-0-0, c.in_ok-behind.behind) = search rules in
    let read : (conj_at (term_at c.args.depth)) c.in_ok-behind.behind ≡ Ok (c.in_ok-tree.tree, c.in_ok-tree.behind) = search rules in
    let is : c.push-in-loop-left.new.self ≡ c.loop-left.list ++ c.in_ok-tree.tree ∷ [] = search rules in
    ap (λ z. with_front z (more_up_to_at (c.loop-left.left - 1) (kinds.Keyword k.Or) (keyword_at k.Or) (conj_at (term_at c.args.depth)) c.in_ok-tree.behind)) is
    ∙ sym (one_more (kinds.Keyword k.Or) (keyword_at k.Or) (conj_at (term_at c.args.depth)) c.loop-left.left c.loop-left.list c.loop-left.rest
    c.in_ok-behind.behind c.in_ok-tree.behind c.in_ok-behind.field-0-0 c.in_ok-tree.tree some word taken read)
    ∙ c.loop-left.invariant

pub more_terms-loop-left-preserved : goal.more_terms-loop-left-preserved
more_terms-loop-left-preserved t c =
    let some : 0 < c.loop-left.left = search rules in
    let word : next_is (kinds.Keyword k.And) c.loop-left.rest ≡ true = cc in
    let taken : keyword_at k.And c.loop-left.rest ≡ Ok (c.in_ok-behind.field-0-0, c.in_ok-behind.behind) = search rules in
    let read : (term_at c.args.depth) c.in_ok-behind.behind ≡ Ok (c.in_ok-tree.tree, c.in_ok-tree.behind) = search rules in
    let is : c.push-in-loop-left.new.self ≡ c.loop-left.list ++ c.in_ok-tree.tree ∷ [] = search rules in
    ap (λ z. with_front z (more_up_to_at (c.loop-left.left - 1) (kinds.Keyword k.And) (keyword_at k.And) (term_at c.args.depth) c.in_ok-tree.behind)) is
    ∙ sym (one_more (kinds.Keyword k.And) (keyword_at k.And) (term_at c.args.depth) c.loop-left.left c.loop-left.list c.loop-left.rest
    c.in_ok-behind.behind c.in_ok-tree.behind c.in_ok-behind.field-0-0 c.in_ok-tree.tree some word taken read)
    ∙ c.loop-left.invariant
