-- A builder without a row keeps what it should.
use Rattle.std.proofs.Common.{[], List, ℕ, ap, ◌∙◌}
use Rattle.hv_chunk.specs.Building.{rows_on}
use Rattle.hv_chunk.proofs.Keeping.{kept_new, kept_as}
use Rattle.hv_chunk.proofs.builder.ChunkBuilder.new.Goals as goal

pub invariant_of-result : goal.invariant_of-result
invariant_of-result c =
    let writer = c.in_ok-new.field-0 in
    let none = ap (λ (pages : List (List ℕ)). rows_on c.args.schema pages writer.entries) c.new-3.ensures ∙ ap (rows_on c.args.schema []) c.in_ok-new.ensures.3 in
    kept_as writer c.args.schema _ _ _ _ _ _ 0 none c.new-3.ensures c.new-2.ensures.items
    (kept_new writer c.args.schema c.in_ok-new.ensures.0 c.in_ok-new.ensures.1 c.in_ok-new.ensures.2 c.in_ok-new.ensures.3)
