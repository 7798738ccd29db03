-- The law.
use Rattle.hv_expr.proofs.Conjuncts.{each_conjunct_holds}
use Rattle.hv_expr.proofs.law.truth_law.Goals as goal

pub returns : goal.returns
returns c = record { conjuncts = each_conjunct_holds }
