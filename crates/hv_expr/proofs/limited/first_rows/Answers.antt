-- One turn puts a row more behind the rows, and behind those that they stand for; what answers for the last rows answers for all.
use Rattle.std.proofs.Common.{◌≡◌, [], ◌∷◌, ◌++◌, Some, map, take, rules, ap, subst}
use Rattle.std.proofs.lemmas.List.{take_all}
use Rattle.std.proofs.lemmas.Result.{IfOk-weaker}
use Rattle.hv_model.specs.Query.{row_out}
use Rattle.hv_expr.specs.Limits.{StandsFor}
use Rattle.hv_expr.proofs.Cuts.{turn_stands, none_behind}
use Rattle.hv_expr.proofs.limited.first_rows.Goals as goal

pub loop-combo-preserved : goal.loop-combo-preserved
loop-combo-preserved c =
    let image : c.in_ok-row_out.field-0 ≡ row_out c.args.items.now c.combo-item.result = search rules in
    let pushed : c.push.new.self ≡ c.in_ok-rows.rows ++ c.in_ok-row_out.field-0 ∷ [] = search rules in
    turn_stands c.args.keys.now (Some c.args.limit) (row_out c.args.items.now) c.args.combos.now c.loop-combo.combo-index c.combo-item.result
    c.loop-combo.rows c.in_ok-rows.rows c.push.new.self c.in_ok-row_out.field-0 (search rules) c.combo-item.is c.loop-combo.invariant c.in_ok-rows.ensures image pushed

pub returns : goal.returns
returns c =
    let f = row_out c.args.items.now in
    let whole : map f (take c.loop-combo.combo-index c.args.combos.now) ≡ map f c.args.combos.now =
    ap (map f) (take_all c.loop-combo.combo-index c.args.combos.now (search rules)) in
    let all : StandsFor c.args.keys.now (Some c.args.limit) c.loop-combo.rows (map f c.args.combos.now) =
    subst (λ l. StandsFor c.args.keys.now (Some c.args.limit) c.loop-combo.rows l) whole c.loop-combo.invariant in
    IfOk-weaker c.ordered.result _ _ (none_behind c.args.keys.now (Some c.args.limit) c.loop-combo.rows (map f c.args.combos.now) all) c.ordered.ensures.answer
