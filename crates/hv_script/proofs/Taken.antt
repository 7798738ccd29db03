-- Texts that were read, and one more that is taken or one too many.
use Rattle.std.proofs.Common.{◌≡◌, ℕ, ◌+◌, ◌≤◌, true, List, [], ◌∷◌, ◌++◌, length, Option, Some, None, IfOk, Result, Ok, Err, IsUtf8, ap, sym, ◌∙◌, subst}
use Rattle.std.specs.List.{list_all}
use Rattle.hv_model.specs.declared.tree.Word.{Word}
use Rattle.hv_model.specs.declared.tree.Ast.TheVariants as ast
use Rattle.hv_model.specs.declared.script.Script.{Script}
use Rattle.hv_model.specs.declared.script.FaultName.{FaultName}
use Rattle.hv_model.specs.declared.script.FaultName.TheVariants.{TooLong, NotUtf8, Unended, LongImport, ShortImport, TooManySessions, TooManyStatements}
use Rattle.hv_model.specs.Parsed.{tree_of}
use Rattle.hv_model.specs.Script.{most_bytes, is_blank, Cut, Placed, script_of, end_phase, has_reply, place_cut, after_cut, placed_by, IsWithin, ReadsTo, IsScript, IsFault}
use Rattle.hv_script.specs.declared.so_far.SoFar.{SoFar}
use Rattle.hv_model.proofs.ScriptPlaced.{replied_added}
use Rattle.hv_script.specs.Next.{HasNext}
use Rattle.hv_script.specs.SoFar.{HasRead, Stands, IsSet, IsAdded, IsOver, IsTaken}
use Rattle.hv_script.proofs.Behind.{cut_of, takes_next, cuts_push, placed_push, reads_to, session_too_many, one_too_many}

-- one more text was read
pub read_next : (bytes rest from text lines after : List ℕ) (s t : Placed) → HasRead bytes rest s → HasNext rest from text lines after → t ≡ after_cut s (cut_of text lines) → HasRead bytes after t
read_next bytes rest from text lines after s t r next is = record {
  cuts = r.cuts ++ cut_of text lines ∷ [];
  read = cuts_push bytes r.cuts (cut_of text lines) rest after r.read (takes_next rest from text lines after next);
  is = is ∙ ap (λ z. after_cut z (cut_of text lines)) r.is ∙ sym (placed_push r.cuts (cut_of text lines));
}

-- texts without a fault
abbrev pub front_of : (bytes rest : List ℕ) (s : Placed) → length bytes ≤ most_bytes → IsUtf8 bytes → HasRead bytes rest s → IsWithin s → ReadsTo bytes rest
front_of bytes rest s short utf8 r within = reads_to bytes rest r.cuts short utf8 r.read (subst (λ z. IsWithin z) r.is within)

-- the script behind them
pub script_behind : (bytes rest : List ℕ) (s : Placed) (script : Script) → length bytes ≤ most_bytes → IsUtf8 bytes → HasRead bytes rest s → IsWithin s → list_all is_blank rest ≡ true
    → script ≡ script_of s → IsScript bytes script
script_behind bytes rest s script short utf8 r within blank is =
    record { rest = rest; front = front_of bytes rest s short utf8 r within; blank = blank; is = is ∙ ap (λ z. script_of z) r.is }

-- the fault of a text that is one too many
over_by : (fault : FaultName) (bytes rest from text lines after : List ℕ) (front : ReadsTo bytes rest) → HasNext rest from text lines after → IsOver fault (placed_by front.cuts) (tree_of text)
    → (byte : ℕ) → byte + length from ≡ length bytes → IsFault bytes fault byte
over_by TooManySessions bytes rest from text lines after front next o byte at = session_too_many bytes rest from text lines after byte front o.name o.sets o.other o.full next at
over_by TooManyStatements bytes rest from text lines after front next o byte at = one_too_many bytes rest from text lines after byte front o.replied o.full next at
over_by TooLong bytes rest from text lines after front next o byte at = absurd o
over_by NotUtf8 bytes rest from text lines after front next o byte at = absurd o
over_by Unended bytes rest from text lines after front next o byte at = absurd o
over_by LongImport bytes rest from text lines after front next o byte at = absurd o
over_by ShortImport bytes rest from text lines after front next o byte at = absurd o

pub over_fault : (fault : FaultName) (bytes rest from text lines after : List ℕ) (s : Placed) → length bytes ≤ most_bytes → IsUtf8 bytes → HasRead bytes rest s → IsWithin s
    → HasNext rest from text lines after → IsOver fault s (tree_of text) → (byte : ℕ) → byte + length from ≡ length bytes → IsFault bytes fault byte
over_fault fault bytes rest from text lines after s short utf8 r within next over =
    over_by fault bytes rest from text lines after (front_of bytes rest s short utf8 r within) next (subst (λ z. IsOver fault z (tree_of text)) r.is over)

-- a text that sets the session
set_taken : (s : Placed) (cut : Cut) (name : Word) (fault : Option FaultName) (it : SoFar) → tree_of cut.text ≡ Some (ast.Session name) → IsSet s name.name fault it → IsTaken s cut fault it
set_taken s cut name None it tree t = record { kept = t.kept; is = t.is ∙ ap (λ z. place_cut s cut z) (sym tree) }
set_taken s cut name (Some fault) it tree t = rw t.0 (record { name = name; sets = tree; other = t.1; full = t.2 })

pub set_result : {E : Type 0} (result : Result (Option FaultName) E) (s : Placed) (cut : Cut) (name : Word) (it : SoFar) → tree_of cut.text ≡ Some (ast.Session name)
    → IfOk result (λ fault. IsSet s name.name fault it) → IfOk result (λ fault. IsTaken s cut fault it)
set_result (Ok fault) s cut name it tree t = set_taken s cut name fault it tree t
set_result (Err error) s cut name it tree t = tt

-- one that ends a phase
pub end_taken : (s : Placed) (cut : Cut) (it : SoFar) → tree_of cut.text ≡ Some ast.Barrier → Stands it (end_phase s) → Stands it (after_cut s cut)
end_taken s cut it tree t = record { kept = t.kept; is = t.is ∙ ap (λ z. place_cut s cut z) (sym tree) }

-- one with a reply
add_taken : (s : Placed) (cut : Cut) (fault : Option FaultName) (it : SoFar) → has_reply (tree_of cut.text) ≡ true → IsAdded s cut fault it → IsTaken s cut fault it
add_taken s cut None it replied t = record { kept = t.kept; is = t.is ∙ sym (replied_added s cut (tree_of cut.text) replied) }
add_taken s cut (Some fault) it replied t = rw t.0 (record { replied = replied; full = t.1 })

pub add_result : {E : Type 0} (result : Result (Option FaultName) E) (s : Placed) (cut : Cut) (it : SoFar) → has_reply (tree_of cut.text) ≡ true
    → IfOk result (λ fault. IsAdded s cut fault it) → IfOk result (λ fault. IsTaken s cut fault it)
add_result (Ok fault) s cut it replied t = add_taken s cut fault it replied t
add_result (Err error) s cut it replied t = tt
