-- The columns so far and those from here on are all.
use Rattle.std.proofs.Common.{◌≡◌, ◌++◌, drop}
use Rattle.hv_model.specs.Scope.{columns_from}
use Rattle.hv_bind.proofs.columns.add_columns.Given as goal

abbrev pub invariant-loop-column : goal.invariant-loop-column
invariant-loop-column l = l.all ++ columns_from l.place l.column (drop l.column l.columns) ≡ l.initial.all ++ columns_from l.place 0 l.columns
