-- The bytes of a script are read in one way. This project's own.
use Rattle.std.specs.Prelude.{◌≡◌, ◌⊎◌, ℕ, List}
use Rattle.hv_model.specs.Script.{IsScript, IsFault}
use Rattle.hv_model.specs.declared.script.Script.{Script}
use Rattle.hv_model.specs.declared.script.FaultName.{FaultName}

-- the bytes are a script or have a fault
abbrev pub HasReading : List ℕ → Type 0
HasReading bytes = ((s : Script) × IsScript bytes s) ⊎ ((name : FaultName) × (byte : ℕ) × IsFault bytes name byte)

-- so are all
abbrev pub SomeReading : Type 0
SomeReading = (bytes : List ℕ) → HasReading bytes

-- bytes are at most one script
abbrev pub OneScript : Type 0
OneScript = (bytes : List ℕ) (s t : Script) → IsScript bytes s → IsScript bytes t → s ≡ t

-- bytes that are a script have no fault
abbrev pub NoFaultToo : Type 0
NoFaultToo = (bytes : List ℕ) (s : Script) (name : FaultName) (byte : ℕ) → IsScript bytes s → IsFault bytes name byte → ⊥

-- bytes have at most one fault, which is told at one byte
abbrev pub OneFault : Type 0
OneFault = (bytes : List ℕ) (name other : FaultName) (byte place : ℕ) → IsFault bytes name byte → IsFault bytes other place → (name ≡ other) × (byte ≡ place)
