-- The numbers of the statuses. This project's own.
use Rattle.std.specs.Prelude.{ℕ}
use Rattle.oodb.specs.declared.status.Status.{Status}
use Rattle.oodb.specs.declared.status.Status.TheVariants as status

-- the number that the program ends with
abbrev pub code_of : Status → ℕ
code_of status.Fine = 0
code_of status.SomeFailed = 1
code_of status.Words = 2
code_of status.Script = 3
code_of status.SourceFault = 4
code_of status.SinkFault = 5
code_of status.Memory = 6
