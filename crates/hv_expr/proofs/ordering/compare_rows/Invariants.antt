-- The keys still to come order the rows as all keys do.
use Rattle.std.proofs.Common.{◌≡◌, drop}
use Rattle.hv_model.specs.Answer.{row_order}
use Rattle.hv_expr.proofs.ordering.compare_rows.Given as goal

abbrev pub invariant-loop-key : goal.invariant-loop-key
invariant-loop-key l = row_order (drop l.key-index l.keys) l.x l.y ≡ row_order l.keys l.x l.y
