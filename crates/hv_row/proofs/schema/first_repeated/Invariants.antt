-- no name before `at` is repeated, so the search goes on from there
use Rattle.std.proofs.Common.{◌≡◌, take, drop}
use Rattle.hv_row.specs.Schema.{first_repeated, repeated_from}
use Rattle.hv_row.proofs.schema.first_repeated.Given as goal

abbrev pub invariant-loop-at : goal.invariant-loop-at
invariant-loop-at l = first_repeated l.columns ≡ repeated_from (take l.at l.columns) (drop l.at l.columns) l.at
