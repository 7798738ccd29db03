-- The columns so far and those from here on are all.
use Rattle.std.proofs.Common.{◌≡◌, ◌++◌, drop}
use Rattle.hv_model.specs.Scope.{columns_of_places, all_columns}
use Rattle.hv_bind.proofs.scope.Scope.all_columns.Given as goal

abbrev pub invariant-loop-place : goal.invariant-loop-place
invariant-loop-place l = l.columns ++ columns_of_places l.place (drop l.place l.self.heads.now) ≡ all_columns l.self.heads.now
