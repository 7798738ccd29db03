-- Which statements the bytes of a script are, or what its first fault is. This project's own.
use Rattle.std.specs.Prelude.{◌≡◌, ◌⊎◌, ℕ, ◌+◌, ◌<◌, ◌≤◌, Bool, true, false, not, ◌||◌, ◌&&◌, ◌==◌, List, [], ◌∷◌, ◌++◌, length, Option, Some, None, codes, IsSome, IsUtf8, count_by, fold, if◌then◌else◌}
use Rattle.std.specs.List.{onto_first, list_all, list_any}
use Rattle.std.specs.Str.{IsValidUpTo}
use Rattle.hv_row.specs.Schema.{same_name}
use Rattle.hv_model.specs.declared.tree.Word.{Word}
use Rattle.hv_model.specs.declared.tree.Ast.{Ast}
use Rattle.hv_model.specs.declared.tree.Ast.TheVariants as ast
use Rattle.hv_model.specs.declared.script.Statement.{Statement}
use Rattle.hv_model.specs.declared.script.Script.{Script}
use Rattle.hv_model.specs.declared.script.FaultName.{FaultName}
use Rattle.hv_model.specs.declared.script.FaultName.TheVariants.{TooLong, NotUtf8, Unended, LongImport, ShortImport, TooManySessions, TooManyStatements}
use Rattle.hv_model.specs.Token.{is_white}
use Rattle.hv_model.specs.Parsed.{tree_of, lines_wanted}
use Rattle.hv_model.specs.Command.{statements}

-- the most bytes of a script
abbrev pub most_bytes : ℕ
most_bytes = 67108864

-- the most lines of an import
abbrev pub most_lines : ℕ
most_lines = 1000000

-- the most sessions of a script
abbrev pub most_sessions : ℕ
most_sessions = 64

-- the most statements of a script, of all sessions together
abbrev pub most_statements : ℕ
most_statements = 1000000

-- what may stand between statements: white space and `;`, so that empty statements are passed over
abbrev pub is_blank : ℕ → Bool
is_blank b = is_white b || b == 59

-- whether the first byte is neither white nor `;`
abbrev pub begins_unblank : List ℕ → Bool
begins_unblank [] = false
begins_unblank (b ∷ _) = not (is_blank b)

-- whether we are between quotes behind these bytes, if we are in front of them as told; None where a `;` outside quotes is among them
abbrev pub quoted_behind : Bool → List ℕ → Option Bool
quoted_behind quoted [] = Some quoted
quoted_behind quoted (b ∷ bs) =
    if b == 39 then quoted_behind (not quoted) bs else (if b == 59 && not quoted then None else quoted_behind quoted bs)

-- a statement's text: it begins with a byte that isn't blank, and the next `;` outside quotes stands right behind it
pub record IsText (text : List ℕ) : Type 0 where
  pub begins : begins_unblank text ≡ true
  pub closed : quoted_behind false text ≡ Some false

-- the physical lines of data without their line feeds; a last line without a line feed has at least one byte
abbrev pub line_list : List ℕ → List (List ℕ)
line_list [] = []
line_list (b ∷ bs) = if b == 10 then [] ∷ line_list bs else onto_first b (line_list bs)

-- whether bytes end with a line feed
abbrev pub ends_line : List ℕ → Bool
ends_line [] = false
ends_line (b ∷ []) = b == 10
ends_line (b ∷ c ∷ bs) = ends_line (c ∷ bs)

-- what is left behind spaces and tabs, an optional carriage return and a line feed; None where that isn't what stands there
abbrev pub behind_return : List ℕ → Option (List ℕ)
behind_return [] = None
behind_return (b ∷ bs) = if b == 10 then Some bs else None

abbrev pub behind_gap : List ℕ → Option (List ℕ)
behind_gap [] = None
behind_gap (b ∷ bs) =
    if b == 32 || b == 9 then behind_gap bs else (if b == 13 then behind_return bs else (if b == 10 then Some bs else None))

-- where the data of an import begins: behind the rest of the line of its `;`, if that is white, else right behind the `;`
abbrev pub data_from : Option (List ℕ) → List ℕ → List ℕ
data_from None behind = behind
data_from (Some data_bytes) behind = data_bytes

abbrev pub data_behind : List ℕ → List ℕ
data_behind behind = data_from (behind_gap behind) behind

-- `lines` are the data of a statement that wants so many lines, and `after` is what is left of the bytes behind its `;`
pub record TakesLines (wanted : ℕ) (behind lines after : List ℕ) : Type 0 where
  pub none : wanted ≡ 0 → (lines ≡ []) × (after ≡ behind)
  pub some : 0 < wanted → data_behind behind ≡ lines ++ after
  pub count : length (line_list lines) ≡ wanted
  pub whole : (ends_line lines ≡ true) ⊎ (after ≡ []) ⊎ (wanted ≡ 0)

-- what is cut off a script at once: a text, and the data lines that it takes
pub record Cut : Type 0 where
  pub text : List ℕ
  pub lines : List ℕ

-- the bytes begin with this text and its lines, and `after` is what is left
pub record Takes (bytes : List ℕ) (cut : Cut) (after : List ℕ) : Type 0 where
  pub blanks : List ℕ
  pub behind : List ℕ
  pub blank : list_all is_blank blanks ≡ true
  pub text : IsText cut.text
  pub is : bytes ≡ blanks ++ (cut.text ++ 59 ∷ behind)
  pub few : lines_wanted cut.text ≤ most_lines
  pub data_lines : TakesLines (lines_wanted cut.text) behind cut.lines after

-- the bytes begin with these texts and their lines, and `rest` is what is left
abbrev pub Cuts : List ℕ → List Cut → List ℕ → Type 0
Cuts bytes [] rest = bytes ≡ rest
Cuts bytes (cut ∷ cuts) rest = (after : List ℕ) × Takes bytes cut after × Cuts after cuts rest

-- where what was read stands: the names of sessions in the order of their first naming, the session of what follows, the phases that have ended,
-- and the statements of the one that hasn't
pub record Placed : Type 0 where
  pub sessions : List (List ℕ)
  pub current : List ℕ
  pub ended : List (List Statement)
  pub phase : List Statement

-- before the first text: `main` is named, and is the session of what follows
abbrev pub placed_first : Placed
placed_first = record { sessions = codes "main" ∷ []; current = codes "main"; ended = []; phase = [] }

-- the script of what was read: the last phase ends with it
abbrev pub script_of : Placed → Script
script_of s = record { sessions = s.sessions; phases = s.ended ++ s.phase ∷ [] }

-- whether a name is among those of sessions
abbrev pub is_session : List (List ℕ) → List ℕ → Bool
is_session names name = list_any (λ other. same_name other name) names

-- the names of sessions, and behind them one that isn't among them
abbrev pub with_session : List (List ℕ) → List ℕ → List (List ℕ)
with_session names name = if is_session names name then names else names ++ name ∷ []

-- behind a text that sets the session
abbrev pub set_session : Placed → List ℕ → Placed
set_session s name = record { sessions = with_session s.sessions name; current = name; ended = s.ended; phase = s.phase }

-- behind a text that ends a phase
abbrev pub end_phase : Placed → Placed
end_phase s = record { sessions = s.sessions; current = s.current; ended = s.ended ++ s.phase ∷ []; phase = [] }

-- how many statements of the session were read
abbrev pub count_read : Placed → List ℕ → ℕ
count_read s name = count_by (λ x. same_name x.session name) (statements (script_of s))

-- a text with its lines, as the next statement of its session
abbrev pub next_statement : Placed → Cut → Statement
next_statement s cut = record { session = s.current; number = count_read s s.current + 1; text = cut.text; lines = cut.lines }

-- behind a statement
abbrev pub add_statement : Placed → Cut → Placed
add_statement s cut = record { sessions = s.sessions; current = s.current; ended = s.ended; phase = s.phase ++ next_statement s cut ∷ [] }

-- whether a text with this tree is a statement that has a reply: each but SESSION and BARRIER, also one without a tree
abbrev pub has_reply : Option Ast → Bool
has_reply (Some (ast.Session name)) = false
has_reply (Some ast.Barrier) = false
has_reply _ = true

-- behind one more text with this tree
abbrev pub place_cut : Placed → Cut → Option Ast → Placed
place_cut s cut (Some (ast.Session name)) = set_session s name.name
place_cut s cut (Some ast.Barrier) = end_phase s
place_cut s cut _ = add_statement s cut

-- behind one more text
abbrev pub after_cut : Placed → Cut → Placed
after_cut s cut = place_cut s cut (tree_of cut.text)

-- behind these texts from the first on
abbrev pub placed_by : List Cut → Placed
placed_by cuts = fold after_cut placed_first cuts

-- no more sessions and statements than a script has
pub record IsWithin (s : Placed) : Type 0 where
  pub sessions : length s.sessions ≤ most_sessions
  pub all_statements : length (statements (script_of s)) ≤ most_statements

-- the bytes begin with texts without a fault, behind which no more sessions and statements were read than a script has, and `rest` is what is left
pub record ReadsTo (bytes rest : List ℕ) : Type 0 where
  pub short : length bytes ≤ most_bytes
  pub utf8 : IsUtf8 bytes
  pub cuts : List Cut
  pub read : Cuts bytes cuts rest
  pub within : IsWithin (placed_by cuts)

-- the bytes are this script, which has no fault
pub record IsScript (bytes : List ℕ) (s : Script) : Type 0 where
  pub rest : List ℕ
  pub front : ReadsTo bytes rest
  pub blank : list_all is_blank rest ≡ true
  pub is : s ≡ script_of (placed_by front.cuts)

-- the bytes are no UTF-8; the length of the longest front that is one is told
pub record IsNotUtf8 (bytes : List ℕ) (byte : ℕ) : Type 0 where
  pub short : length bytes ≤ most_bytes
  pub none : ¬ (IsUtf8 bytes)
  pub longest : IsValidUpTo bytes byte

-- behind texts without a fault stands one that no `;` ends; its first byte is told
pub record IsUnended (bytes : List ℕ) (byte : ℕ) : Type 0 where
  pub rest : List ℕ
  pub front : ReadsTo bytes rest
  pub blanks : List ℕ
  pub text : List ℕ
  pub blank : list_all is_blank blanks ≡ true
  pub begins : begins_unblank text ≡ true
  pub unended : IsSome (quoted_behind false text)
  pub is : rest ≡ blanks ++ text
  pub at : byte + length text ≡ length bytes

-- behind texts without a fault stands one with its `;`, of this text and with these bytes behind; its first byte is told
pub record Follows (bytes : List ℕ) (byte : ℕ) (text behind : List ℕ) : Type 0 where
  pub rest : List ℕ
  pub front : ReadsTo bytes rest
  pub blanks : List ℕ
  pub blank : list_all is_blank blanks ≡ true
  pub text_is : IsText text
  pub is : rest ≡ blanks ++ (text ++ 59 ∷ behind)
  pub at : byte + length (text ++ 59 ∷ behind) ≡ length bytes

-- it is an import that wants more lines than any takes
pub record IsLongImport (bytes : List ℕ) (byte : ℕ) : Type 0 where
  pub text : List ℕ
  pub behind : List ℕ
  pub follows : Follows bytes byte text behind
  pub many : most_lines < lines_wanted text

-- it is an import that wants more lines than follow
pub record IsShortImport (bytes : List ℕ) (byte : ℕ) : Type 0 where
  pub text : List ℕ
  pub behind : List ℕ
  pub follows : Follows bytes byte text behind
  pub allowed : lines_wanted text ≤ most_lines
  pub few : length (line_list (data_behind behind)) < lines_wanted text

-- it has its lines, and sets a name of a session that is one more than a script has
pub record IsSessionTooMany (bytes : List ℕ) (byte : ℕ) : Type 0 where
  pub text : List ℕ
  pub behind : List ℕ
  pub follows : Follows bytes byte text behind
  pub allowed : lines_wanted text ≤ most_lines
  pub enough : lines_wanted text ≤ length (line_list (data_behind behind))
  pub name : Word
  pub sets : tree_of text ≡ Some (ast.Session name)
  pub other : is_session (placed_by follows.front.cuts).sessions name.name ≡ false
  pub full : length (placed_by follows.front.cuts).sessions ≡ most_sessions

-- it has its lines and a reply, and as many statements stand before it as a script has
pub record IsOneTooMany (bytes : List ℕ) (byte : ℕ) : Type 0 where
  pub text : List ℕ
  pub behind : List ℕ
  pub follows : Follows bytes byte text behind
  pub allowed : lines_wanted text ≤ most_lines
  pub enough : lines_wanted text ≤ length (line_list (data_behind behind))
  pub replied : has_reply (tree_of text) ≡ true
  pub full : length (statements (script_of (placed_by follows.front.cuts))) ≡ most_statements

-- the bytes have this fault, and this byte is told: too many bytes come first, then bytes that are no UTF-8, then the first statement at fault;
-- at one statement the fault that stands first here
abbrev pub IsFault : List ℕ → FaultName → ℕ → Type 0
IsFault bytes TooLong byte = (most_bytes < length bytes) × (byte ≡ most_bytes)
IsFault bytes NotUtf8 byte = IsNotUtf8 bytes byte
IsFault bytes Unended byte = IsUnended bytes byte
IsFault bytes LongImport byte = IsLongImport bytes byte
IsFault bytes ShortImport byte = IsShortImport bytes byte
IsFault bytes TooManySessions byte = IsSessionTooMany bytes byte
IsFault bytes TooManyStatements byte = IsOneTooMany bytes byte
