-- a repeated column is one of at most 32
use Rattle.std.proofs.Common.{◌<◌, length, sym, ap, arith}
use Rattle.hv_world.proofs.Columns.{repeated_within}
use Rattle.hv_world.proofs.command.column_refusal.Goals as goal

pub overflow_cast-result : goal.overflow_cast-result
overflow_cast-result c =
    let below : c.in_ok-place.place < length c.as_slice.result.now = repeated_within c.as_slice.result.now c.in_ok-place.place (sym c.in_ok-place.ensures) in
    omega (arith, below, ap length c.as_slice.ensures)

pub overflow_add-result : goal.overflow_add-result
overflow_add-result c =
    let below : c.in_ok-place.place < length c.as_slice.result.now = repeated_within c.as_slice.result.now c.in_ok-place.place (sym c.in_ok-place.ensures) in
    omega (arith, below, ap length c.as_slice.ensures)
