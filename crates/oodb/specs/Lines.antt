-- The lines that a run writes in place of a report.
use Rattle.std.specs.Prelude.{ℕ, List, ◌++◌, codes, Result, OnOk, IfErr}
use Rattle.std.specs.Fmt.{decimal}
use Rattle.hv_io.specs.Bytes.{Seen}
use Rattle.hv_io.specs.Putting.{TookAll, Stopped}
use Rattle.hv_io.specs.declared.writing.PutAll.{PutAll}
use Rattle.hv_model.specs.declared.script.FaultName.{FaultName}
use Rattle.hv_model.specs.declared.script.FaultName.TheVariants.{TooLong, NotUtf8, Unended, LongImport, ShortImport, TooManySessions, TooManyStatements}

-- what is printed of a script's fault
abbrev pub fault_name : FaultName → List ℕ
fault_name TooLong = codes "too-long"
fault_name NotUtf8 = codes "not-utf8"
fault_name Unended = codes "unended"
fault_name LongImport = codes "long-import"
fault_name ShortImport = codes "short-import"
fault_name TooManySessions = codes "too-many-sessions"
fault_name TooManyStatements = codes "too-many-statements"

-- the i-th word, counted from 1, is at fault
abbrev pub word_line : ℕ → List ℕ
word_line i = codes "fault word " ++ decimal i ++ codes "\n"

-- the script has this fault at this byte
abbrev pub fault_line : FaultName → ℕ → List ℕ
fault_line name byte = codes "fault " ++ fault_name name ++ codes " " ++ decimal byte ++ codes "\n"

-- a text was written since the start: all of it, or a prefix up to a fault of the sink
pub record Written (outcome : Result (Unit {0}) PutAll) (start : Seen) (text : List ℕ) (now : Seen) : Type 0 where
  pub all : OnOk outcome (TookAll start text now)
  pub part : IfErr outcome (λ cause. Stopped start text now cause)
