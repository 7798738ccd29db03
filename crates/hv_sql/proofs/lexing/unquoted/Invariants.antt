-- What came so far and what the rest stands for is what all stands for.
use Rattle.std.proofs.Common.{◌≡◌, ◌++◌, false, drop}
use Rattle.hv_model.specs.Lexemes.{unquoted}
use Rattle.hv_sql.proofs.lexing.unquoted.Given as goal

abbrev pub invariant-loop-byte : goal.invariant-loop-byte
invariant-loop-byte l = l.value.items ++ unquoted l.pending (drop l.byte-index l.behind) ≡ unquoted false l.behind
