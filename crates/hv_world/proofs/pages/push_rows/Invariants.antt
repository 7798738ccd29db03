use Rattle.std.proofs.Common.{take}
use Rattle.hv_world.specs.RowsRead.{AddsRows}
use Rattle.hv_world.proofs.pages.push_rows.Given as goal

-- the rows of the first slots went behind those of before
abbrev pub invariant-loop-slot : goal.invariant-loop-slot
invariant-loop-slot l = AddsRows l.schema (take l.slot l.view) l.initial.out l.out
