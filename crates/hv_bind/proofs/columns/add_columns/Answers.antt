-- A turn adds the next column.
use Rattle.std.proofs.Common.{arith}
use Rattle.std.proofs.lemmas.Grind.{common_steps}
use Rattle.hv_bind.proofs.Steps.{columns_next}
use Rattle.hv_bind.proofs.columns.add_columns.Goals as goal

pub loop-column-preserved : goal.loop-column-preserved
loop-column-preserved c =
    let next = columns_next c.args.place c.loop-column.column c.args.columns.now c.loop-column.column c.loop-column-test.true in
    grind (arith, common_steps, next)
