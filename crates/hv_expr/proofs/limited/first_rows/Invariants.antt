-- The rows stand for the output rows of the combinations gone through.
use Rattle.std.proofs.Common.{map, take, Some}
use Rattle.hv_model.specs.Query.{row_out}
use Rattle.hv_expr.specs.Limits.{StandsFor}
use Rattle.hv_expr.proofs.limited.first_rows.Given as goal

abbrev pub invariant-loop-combo : goal.invariant-loop-combo
invariant-loop-combo l = StandsFor l.keys (Some l.limit) l.rows (map (row_out l.items) (take l.combo-index l.combos))
