use Rattle.std.proofs.Common.{◌≡◌, ◌+◌, ◌-◌, ℕ, take, drop, ap, ◌∙◌, rules, arith}
use Rattle.hv_heap.specs.Writer.{page_at}
use Rattle.hv_heap.proofs.writer.part.Goals as goal

pub returns : goal.returns
returns c =
    let size : c.args.from + 4096 - c.args.from ≡ 4096 = omega arith in
    let lent : c.as_slice.result.now ≡ c.args.room.now.value = search rules in
    ap (λ (n : ℕ). take n (drop c.args.from c.as_slice.result.now)) size ∙ ap (page_at c.args.from) lent
