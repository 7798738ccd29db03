-- the row fits if and only if what is left of it fits the columns that are left
use Rattle.std.proofs.Common.{◌≡◌, ◌↔◌, length, drop}
use Rattle.hv_row.specs.Row.{RowFits}
use Rattle.hv_row.proofs.row.row_fits.Given as goal

abbrev pub invariant-loop-at : goal.invariant-loop-at
invariant-loop-at l = record { same : length l.row ≡ length l.schema; fits : RowFits l.schema l.row ↔ RowFits (drop l.at l.schema) (drop l.at l.row) }
