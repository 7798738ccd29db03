-- What a printer and the sink behind it have of a text.
use Rattle.std.specs.Prelude.{ℕ, List, [], ◌++◌, Result, Ok, OnOk, IfErr}
use Rattle.hv_io.specs.Bytes.{Seen}
use Rattle.hv_io.specs.Putting.{Stopped, Underway}
use Rattle.hv_io.specs.declared.writing.PutAll.{PutAll}

-- a printer: the bytes that are not handed over yet, and what became of those that were
pub record Printing : Type 0 where
  pub pending : List ℕ
  pub outcome : Result (Unit {0}) PutAll

-- a printer that nothing was put to
abbrev pub blank : Printing
blank = record { pending = []; outcome = Ok tt }

-- the text was put since the sink was as at the start: it has all but what is pending, or a prefix up to a fault
pub record HasPrinted (start : Seen) (text : List ℕ) (now : Seen) (printer : Printing) : Type 0 where
  pub going : OnOk printer.outcome (Underway start text now printer.pending)
  pub stopped : IfErr printer.outcome (λ cause. Stopped start text now cause)

-- the bytes were put behind whatever text was put before
abbrev pub Prints : List ℕ → Seen → Printing → Seen → Printing → Type 0
Prints bytes before old now new =
    (start : Seen) (text : List ℕ) → HasPrinted start text before old → HasPrinted start (text ++ bytes) now new
