-- Rows in order, up to the limit, answer for these.
use Rattle.std.proofs.lemmas.Result.{IfOk-weaker}
use Rattle.hv_expr.proofs.Cuts.{answer_stands}
use Rattle.hv_expr.proofs.limited.fewer.Goals as goal

pub returns : goal.returns
returns c = IfOk-weaker c.ordered.result _ _ (answer_stands c.args.keys.now c.args.limit c.args.rows) c.ordered.ensures.answer
