use Rattle.std.proofs.Common.{arith}
use Rattle.hv_row.proofs.Cutting.{count_rows}
use Rattle.hv_row.proofs.packed.PackedRows.len.Goals as goal

pub returns : goal.returns
returns c = omega (arith, c.len.ensures, count_rows _ _ _ _ c.self.view_is)
