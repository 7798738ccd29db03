-- The laws, part by part.
use Rattle.hv_expr.proofs.Bags.{same_answers}
use Rattle.hv_expr.proofs.Ordered.{one_ordered_answer}
use Rattle.hv_expr.proofs.law.answer_law.Goals as goal

pub returns : goal.returns
returns c = record {
  bags = same_answers;
  ordered = one_ordered_answer;
}
