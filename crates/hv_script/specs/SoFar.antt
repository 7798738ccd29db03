-- What was read of a script so far, as the code holds it. This project's own.
use Rattle.std.specs.Prelude.{◌≡◌, ℕ, true, false, List, [], length, get_or, Option, Some, None}
use Rattle.std.specs.List.{slice_get}
use Rattle.hv_model.specs.declared.tree.Word.{Word}
use Rattle.hv_model.specs.declared.tree.Ast.{Ast}
use Rattle.hv_model.specs.declared.tree.Ast.TheVariants as ast
use Rattle.hv_model.specs.declared.script.FaultName.{FaultName}
use Rattle.hv_model.specs.declared.script.FaultName.TheVariants.{TooManySessions, TooManyStatements}
use Rattle.hv_model.specs.Command.{statements}
use Rattle.hv_model.specs.Parsed.{tree_of}
use Rattle.hv_model.specs.Script.{most_sessions, most_statements, Cut, Cuts, Placed, script_of, is_session, set_session, count_read, add_statement, has_reply, after_cut, placed_by, IsWithin}
use Rattle.hv_script.specs.declared.so_far.SoFar.{SoFar}

-- some texts were read up to here
abbrev pub WasRead : Placed → Type 0
WasRead s = (cuts : List Cut) × (s ≡ placed_by cuts)

-- these texts begin the bytes, and the rest is what is left
pub record HasRead (bytes rest : List ℕ) (s : Placed) : Type 0 where
  pub cuts : List Cut
  pub read : Cuts bytes cuts rest
  pub is : s ≡ placed_by cuts

-- where it stands
abbrev pub placed_of : SoFar → Placed
placed_of it = record { sessions = it.names; current = get_or it.names it.at []; ended = it.ended; phase = it.phase }

-- each session has its name and the count of its statements at its place, and all statements are counted
pub record IsKept (it : SoFar) : Type 0 where
  pub present : slice_get it.names it.at ≡ Some (placed_of it).current
  pub each_member : (i : ℕ) (name : List ℕ) → slice_get it.names i ≡ Some name → slice_get it.members.items i ≡ Some (record { name = name; count = count_read (placed_of it) name })
  pub as_many : length it.members.items ≡ length it.names
  pub counted : it.count ≡ length (statements (script_of (placed_of it)))
  pub within : IsWithin (placed_of it)

-- what holds behind one more text, where it isn't one too many
pub record Stands (it : SoFar) (s : Placed) : Type 0 where
  pub kept : IsKept it
  pub is : placed_of it ≡ s

-- a text with this tree sets the name of a session that is one more than a script has
pub record SetsTooMany (s : Placed) (tree : Option Ast) : Type 0 where
  pub name : Word
  pub sets : tree ≡ Some (ast.Session name)
  pub other : is_session s.sessions name.name ≡ false
  pub full : length s.sessions ≡ most_sessions

-- it has a reply, and as many statements stand before it as a script has
pub record AddsTooMany (s : Placed) (tree : Option Ast) : Type 0 where
  pub replied : has_reply tree ≡ true
  pub full : length (statements (script_of s)) ≡ most_statements

-- behind a text that sets the session to this name, or in front of one that is one too many
abbrev pub IsSet : Placed → List ℕ → Option FaultName → SoFar → Type 0
IsSet s name None it = Stands it (set_session s name)
IsSet s name (Some fault) it = (fault ≡ TooManySessions) × (is_session s.sessions name ≡ false) × (length s.sessions ≡ most_sessions)

-- behind a statement, or in front of one that is one too many
abbrev pub IsAdded : Placed → Cut → Option FaultName → SoFar → Type 0
IsAdded s cut None it = Stands it (add_statement s cut)
IsAdded s cut (Some fault) it = (fault ≡ TooManyStatements) × (length (statements (script_of s)) ≡ most_statements)

-- a text with this tree has this fault, as one that is one too many
abbrev pub IsOver : FaultName → Placed → Option Ast → Type 0
IsOver TooManySessions s tree = SetsTooMany s tree
IsOver TooManyStatements s tree = AddsTooMany s tree
IsOver _ s tree = ⊥

-- behind a text, or in front of one that is one too many
abbrev pub IsTaken : Placed → Cut → Option FaultName → SoFar → Type 0
IsTaken s cut None it = Stands it (after_cut s cut)
IsTaken s cut (Some fault) it = IsOver fault s (tree_of cut.text)
