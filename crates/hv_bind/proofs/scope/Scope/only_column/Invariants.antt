-- The columns so far and those from here on are all.
use Rattle.std.proofs.Common.{◌≡◌, drop}
use Rattle.std.specs.List.{cons_option}
use Rattle.hv_model.specs.Scope.{columns_named}
use Rattle.hv_bind.proofs.scope.Scope.only_column.Given as goal

abbrev pub invariant-loop-place : goal.invariant-loop-place
invariant-loop-place l =
    cons_option l.found (columns_named l.place (drop l.place l.self.heads.now) l.name) ≡ columns_named 0 l.self.heads.now l.name
