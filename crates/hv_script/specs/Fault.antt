-- What is told where bytes or a source give no script. This project's own.
use Rattle.std.specs.Prelude.{◌≡◌, ℕ, ◌+◌, List, length, Result, MatchResult}
use Rattle.hv_io.specs.Counts.{Rose}
use Rattle.hv_model.specs.Script.{IsFault}
use Rattle.hv_model.specs.declared.script.FaultName.{FaultName}
use Rattle.hv_model.specs.declared.script.ScriptFault.{ScriptFault}
use Rattle.hv_script.specs.declared.fault.BytesFault.{BytesFault}
use Rattle.hv_script.specs.declared.fault.BytesFault.TheVariants.{Found, Memory}
use Rattle.hv_script.specs.declared.fault.ReadScriptFault.{ReadScriptFault}
use Rattle.hv_script.specs.declared.fault.ReadScriptFault.TheVariants as read

-- a fault that is told is the bytes'
abbrev pub IsFaultOf : List ℕ → BytesFault → Type 0
IsFaultOf bytes (Found fault) = IsFault bytes fault.name fault.byte
IsFaultOf bytes Memory = Unit {0}

-- this fault is told at the first byte of the rest
abbrev pub TellsAt : FaultName → List ℕ → List ℕ → BytesFault → Type 0
TellsAt name bytes rest (Found fault) = (fault.name ≡ name) × (fault.byte + length rest ≡ length bytes)
TellsAt name bytes rest Memory = ⊥

-- why a source gives no script, where its bytes were read
abbrev pub as_read : BytesFault → ReadScriptFault
as_read (Found fault) = read.Found fault
as_read Memory = read.Memory

-- what holds of a script's fault, where one is told
abbrev pub IfFound : ReadScriptFault → (ScriptFault → Type 0) → Type 0
IfFound (read.Found fault) P = P fault
IfFound read.Source P = Unit {0}
IfFound read.Memory P = Unit {0}

-- what holds where a read failed, and what holds where none did
abbrev pub MatchSource : ReadScriptFault → Type 0 → Type 0 → Type 0
MatchSource (read.Found fault) P Q = Q
MatchSource read.Source P Q = P
MatchSource read.Memory P Q = Q

-- a source's count of faults rose where a read failed, and else stayed
abbrev pub CountsFaults : {T : Type 0} → Result T ReadScriptFault → ℕ → ℕ → Type 0
CountsFaults result before now = MatchResult result (λ _. now ≡ before) (λ fault. MatchSource fault (Rose before now) (now ≡ before))
