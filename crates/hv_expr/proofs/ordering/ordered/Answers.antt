-- The second sort answers by the order of rows, which is a weak order, whatever the first one did; the cut comes behind both.
use Rattle.std.proofs.Common.{◌≡◌, [], List, Bool, rules}
use Rattle.std.specs.Ordering.{is_lt}
use Rattle.std.specs.List.Sorted.{IsSorted, IsPermutation}
use Rattle.std.proofs.lemmas.Fn.{always_returns_same}
use Rattle.std.proofs.lemmas.List.Sorted.{IsPermutation-trans}
use Rattle.hv_model.specs.declared.query.Cell.{Cell}
use Rattle.hv_model.specs.Answer.{row_order, cut}
use Rattle.hv_expr.proofs.Orders.{row_order_weak, AnswersFor-sorted}
use Rattle.hv_expr.proofs.ordering.ordered.Goals as goal
use Rattle.hv_expr.proofs.ordering.ordered.Goals.{in-Some, in_default}

pub returns-clause-answer : goal.returns-clause-answer
returns-clause-answer c =
    let lt : List Cell → List Cell → Bool = λ x y. is_lt (row_order c.args.keys.now x y) in
    let rises : IsSorted (row_order c.args.keys.now) c.sort_by.new.self.items =
    c.in_ok-sort_by.ensures.sorted lt (row_order_weak c.args.keys.now) (always_returns_same _ _ _ (λ a r f h. search rules)) in
    let first : IsPermutation c.args.rows c.sort_by_cached_key.new.self.items = rw (← c.into_vec-sorted.ensures) c.sort_by_cached_key.ensures.permutation in
    let same : IsPermutation c.args.rows c.sort_by.new.self.items =
    IsPermutation-trans c.args.rows c.sort_by_cached_key.new.self.items c.sort_by.new.self.items first c.sort_by.ensures.permutation in
    let some : c.args.keys.now ≡ [] → ⊥ = search rules in
    let are : c.from_vec.result ≡ cut c.args.limit c.sort_by.new.self.items =
    elim c.match-limit.branch [ in-Some w ↦ search rules | in_default w ↦ search rules ] in
    AnswersFor-sorted c.args.keys.now c.args.limit c.args.rows c.sort_by.new.self.items c.from_vec.result some same rises are
