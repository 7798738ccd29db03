-- Each turn reads one tree, and the loop ends where no comma or no room is left.
use Rattle.std.proofs.Common.{rules, ◌≡◌, ◌<◌, ◌-◌, List, true, [], ◌∷◌, ◌++◌, ◌∙◌, sym, ap, subst}
use Rattle.std.specs.Prelude.{Ok, Err}
use Rattle.hv_model.specs.declared.lexeme.Kind.TheVariants as kinds
use Rattle.hv_model.specs.Reading.{more_up_to_at, next_is}
use Rattle.hv_model.specs.SqlReading.{symbol_at}
use Rattle.hv_sql.specs.Code.{Gives, with_front}
use Rattle.hv_model.specs.declared.lexeme.Symbol.TheVariants.{Comma}
use Rattle.hv_sql.proofs.Loops.{one_more, one_stops, room_ends, list_ends}
use Rattle.hv_sql.proofs.rule.more.Goals as goal
use Rattle.hv_sql.proofs.rule.more.Goals.{then-loop-left-test+else-next_symbol, else-loop-left-test}

pub loop-left-init : goal.loop-left-init
loop-left-init g c =
    let is : c.push.new.self ≡ c.args.first ∷ [] = search rules in
    ap (λ z. with_front z (more_up_to_at c.args.room (kinds.Symbol Comma) (symbol_at Comma) g.T.Rule.reader c.args.lexemes)) is

pub returns-in_err-tree : goal.returns-in_err-tree
returns-in_err-tree g c =
    let some : 0 < c.loop-left.left = search rules in
    let comma : next_is (kinds.Symbol Comma) c.loop-left.rest ≡ true = cc in
    let taken : symbol_at Comma c.loop-left.rest ≡ Ok (c.in_ok-behind.field-0-0, c.in_ok-behind.behind) = search rules in
    let stopped = one_stops (kinds.Symbol Comma) (symbol_at Comma) g.T.Rule.reader c.in_err-tree.field-0.0
    c.loop-left.left c.loop-left.list c.loop-left.rest c.in_ok-behind.behind c.in_ok-behind.field-0-0 some comma taken c.in_err-tree.ensures in
    let failed = subst (Gives {A = List g.row.T.Denot} (Err c.in_err-tree.field-0.0)) c.loop-left.invariant stopped in
    search (rules, failed)

pub loop-left-preserved : goal.loop-left-preserved
loop-left-preserved g c =
    let some : 0 < c.loop-left.left = search rules in
    let comma : next_is (kinds.Symbol Comma) c.loop-left.rest ≡ true = cc in
    let taken : symbol_at Comma c.loop-left.rest ≡ Ok (c.in_ok-behind.field-0-0, c.in_ok-behind.behind) = search rules in
    let read : g.T.Rule.reader c.in_ok-behind.behind ≡ Ok (c.in_ok-tree.tree, c.in_ok-tree.behind) = search rules in
    let is : c.push-in-loop-left.new.self ≡ c.loop-left.list ++ c.in_ok-tree.tree ∷ [] = search rules in
    ap (λ z. with_front z (more_up_to_at (c.loop-left.left - 1) (kinds.Symbol Comma) (symbol_at Comma) g.T.Rule.reader c.in_ok-tree.behind)) is
    ∙ sym (one_more (kinds.Symbol Comma) (symbol_at Comma) g.T.Rule.reader c.loop-left.left c.loop-left.list c.loop-left.rest
    c.in_ok-behind.behind c.in_ok-tree.behind c.in_ok-behind.field-0-0 c.in_ok-tree.tree some comma taken read)
    ∙ c.loop-left.invariant

pub returns : goal.returns
returns g c = sym c.loop-left.invariant ∙ elim c.loop-left-test.branch [
  | then-loop-left-test+else-next_symbol w ↦
      list_ends (kinds.Symbol Comma) (symbol_at Comma) g.T.Rule.reader c.loop-left.left c.loop-left.list c.loop-left.rest cc
  | else-loop-left-test w ↦
      let none : c.loop-left.left ≡ 0 = search rules in
      ap (λ z. with_front c.loop-left.list (more_up_to_at z (kinds.Symbol Comma) (symbol_at Comma) g.T.Rule.reader c.loop-left.rest)) none
      ∙ room_ends (kinds.Symbol Comma) (symbol_at Comma) g.T.Rule.reader c.loop-left.list c.loop-left.rest
]
