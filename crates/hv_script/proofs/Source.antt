-- Reading a source to its end.
use Rattle.std.proofs.Common.{◌≡◌, ℕ, ◌+◌, ◌<◌, ◌≤◌, List, [], ◌++◌, length, take, drop, Option, Some, None, IfSome, Result, Ok, Err, IfErr, refl, sym, ◌∙◌, ap, subst, arith, append_assoc, length-append}
use Rattle.std.specs.Result.{IsErrAnd}
use Rattle.std.proofs.lemmas.List.{append-nil, take-append-drop}
use Rattle.hv_io.specs.Bytes.{Consumes, Given, Gives}
use Rattle.hv_model.specs.Script.{most_bytes, IsScript, IsFault, IsNotUtf8, IsUnended, IsLongImport, IsShortImport, IsSessionTooMany, IsOneTooMany}
use Rattle.hv_model.specs.declared.script.Script.{Script}
use Rattle.hv_model.specs.declared.script.FaultName.{FaultName}
use Rattle.hv_model.specs.declared.script.FaultName.TheVariants.{TooLong, NotUtf8, Unended, LongImport, ShortImport, TooManySessions, TooManyStatements}
use Rattle.hv_script.specs.declared.fault.BytesFault.{BytesFault}
use Rattle.hv_script.specs.declared.fault.BytesFault.TheVariants.{Found, Memory}
use Rattle.hv_script.specs.declared.fault.ReadScriptFault.{ReadScriptFault}
use Rattle.hv_script.specs.Fault.{IsFaultOf, IfFound, as_read}
use Rattle.hv_script.specs.Reading.{IsRead}

-- nothing was read yet
pub read_none : (before : Option (List ℕ)) → Consumes before before []
read_none None = tt
read_none (Some bytes) = record { rest = bytes; whole = refl; left = refl }

-- one more piece was read
pub read_more : (before now after : Option (List ℕ)) (all piece : List ℕ) (n : ℕ) → Consumes before now all → Gives now after n piece → Consumes before after (all ++ take n piece)
read_more None now after all piece n r g = tt
read_more (Some bytes) now after all piece n r g =
    let given : Given r.rest after n piece = rw r.left at g in
    record {
      rest = drop n r.rest;
      whole = r.whole ∙ rw (given.front, append_assoc, take-append-drop) refl;
      left = given.rest;
    }

-- the source has no more
pub read_last : (before now after : Option (List ℕ)) (all longer piece : List ℕ) → Consumes before now all → Gives now after 0 piece → IfSome now (λ bytes. bytes ≡ [])
    → longer ≡ all ++ take 0 piece → IfSome before (λ bytes. IsRead bytes after longer)
read_last None now after all longer piece r g e l = tt
read_last (Some bytes) now after all longer piece r g e l =
    let given : Given r.rest after 0 piece = rw r.left at g in
    let none : r.rest ≡ [] = rw r.left at e in
    record {
      read = record { rest = r.rest; whole = rw (l, append-nil) r.whole; left = given.rest };
      ended = λ _. given.rest ∙ ap (λ xs. Some xs) none;
    }

-- more than a script has was read
pub read_long : (before now : Option (List ℕ)) (all : List ℕ) → Consumes before now all → most_bytes < length all → IfSome before (λ bytes. IsRead bytes now all)
read_long None now all r h = tt
read_long (Some bytes) now all r h = record { read = r; ended = λ short. absurd (omega arith) }

-- where no more than a script has was read, all was read
all_read : (bytes : List ℕ) (now : Option (List ℕ)) (all : List ℕ) → IsRead bytes now all → length all ≤ most_bytes → all ≡ bytes
all_read bytes now all r h =
    let none : r.read.rest ≡ [] = (let same : Some r.read.rest ≡ Some [] = sym r.read.left ∙ r.ended h in cc) in
    sym (r.read.whole ∙ rw none (append-nil all))

-- the script of what was read
pub script_read : (before now : Option (List ℕ)) (all : List ℕ) (s : Script) → IfSome before (λ bytes. IsRead bytes now all) → IsScript all s → IfSome before (λ bytes. IsScript bytes s)
script_read None now all s r i = tt
script_read (Some bytes) now all s r i = subst (λ xs. IsScript xs s) (all_read bytes now all r i.front.short) i

-- and no more is left
pub none_left : (before now : Option (List ℕ)) (all : List ℕ) (s : Script) → IfSome before (λ bytes. IsRead bytes now all) → IsScript all s → IfSome before (λ _. now ≡ Some [])
none_left None now all s r i = tt
none_left (Some bytes) now all s r i = r.ended i.front.short

-- the fault of what was read
fault_all : (bytes : List ℕ) (now : Option (List ℕ)) (all : List ℕ) (name : FaultName) (byte : ℕ) → IsRead bytes now all → IsFault all name byte → IsFault bytes name byte
fault_all bytes now all TooLong byte r f =
    let n : length bytes ≡ length all + length r.read.rest = ap length r.read.whole ∙ length-append all r.read.rest in
    let long : most_bytes < length all = f.0 in
    (omega arith, f.1)
fault_all bytes now all NotUtf8 byte r f = subst (λ xs. IsNotUtf8 xs byte) (all_read bytes now all r f.short) f
fault_all bytes now all Unended byte r f = subst (λ xs. IsUnended xs byte) (all_read bytes now all r f.front.short) f
fault_all bytes now all LongImport byte r f = subst (λ xs. IsLongImport xs byte) (all_read bytes now all r f.follows.front.short) f
fault_all bytes now all ShortImport byte r f = subst (λ xs. IsShortImport xs byte) (all_read bytes now all r f.follows.front.short) f
fault_all bytes now all TooManySessions byte r f = subst (λ xs. IsSessionTooMany xs byte) (all_read bytes now all r f.follows.front.short) f
fault_all bytes now all TooManyStatements byte r f = subst (λ xs. IsOneTooMany xs byte) (all_read bytes now all r f.follows.front.short) f

if_fault : (before now : Option (List ℕ)) (all : List ℕ) (name : FaultName) (byte : ℕ) → IfSome before (λ bytes. IsRead bytes now all) → IsFault all name byte
    → IfSome before (λ bytes. IsFault bytes name byte)
if_fault None now all name byte r f = tt
if_fault (Some bytes) now all name byte r f = fault_all bytes now all name byte r f

pub fault_read : (before now : Option (List ℕ)) (all : List ℕ) (fault : BytesFault) → IfSome before (λ bytes. IsRead bytes now all) → IsFaultOf all fault
    → IfFound (as_read fault) (λ found. IfSome before (λ bytes. IsFault bytes found.name found.byte))
fault_read before now all (Found found) r f = if_fault before now all found.name found.byte r f
fault_read before now all Memory r f = tt

-- the fault that is told of what was read
pub fault_of : (result : Result Script ReadScriptFault) (before now : Option (List ℕ)) (all : List ℕ) (fault : BytesFault) → IsErrAnd result (λ e. e ≡ as_read fault)
    → IfSome before (λ bytes. IsRead bytes now all) → IsFaultOf all fault → IfErr result (λ e. IfFound e (λ found. IfSome before (λ bytes. IsFault bytes found.name found.byte)))
fault_of (Ok s) before now all fault e r f = tt
fault_of (Err x) before now all fault e r f = let same : x ≡ as_read fault = e in rw same (fault_read before now all fault r f)
