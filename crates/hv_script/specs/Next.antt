-- What stands next in the bytes of a script. This project's own.
use Rattle.std.specs.Prelude.{◌≡◌, ◌<◌, ◌≤◌, ℕ, true, false, List, ◌∷◌, ◌++◌, length, IsSome}
use Rattle.std.specs.List.{list_all}
use Rattle.hv_model.specs.Parsed.{lines_wanted}
use Rattle.hv_model.specs.Script.{most_lines, is_blank, begins_unblank, quoted_behind, IsText, TakesLines, line_list, data_behind}
use Rattle.hv_script.specs.declared.statement.Next.{Next}
use Rattle.hv_script.specs.declared.statement.Next.TheVariants.{End, Unended, Long, Short, Found}

-- behind blanks stands a statement that no `;` ends, and nothing else
pub record OpensText (bytes from : List ℕ) : Type 0 where
  pub blanks : List ℕ
  pub blank : list_all is_blank blanks ≡ true
  pub begins : begins_unblank from ≡ true
  pub unended : IsSome (quoted_behind false from)
  pub is : bytes ≡ blanks ++ from

-- behind blanks stands a statement with its `;`: all bytes from its first, its text, and what is behind the `;`
pub record ClosesText (bytes from text behind : List ℕ) : Type 0 where
  pub blanks : List ℕ
  pub blank : list_all is_blank blanks ≡ true
  pub text_is : IsText text
  pub is : bytes ≡ blanks ++ from
  pub from_is : from ≡ text ++ 59 ∷ behind

-- it wants more lines than any import takes
pub record WantsMany (bytes from : List ℕ) : Type 0 where
  pub text : List ℕ
  pub behind : List ℕ
  pub closes : ClosesText bytes from text behind
  pub many : most_lines < lines_wanted text

-- it wants more lines than follow
pub record LacksLines (bytes from : List ℕ) : Type 0 where
  pub text : List ℕ
  pub behind : List ℕ
  pub closes : ClosesText bytes from text behind
  pub allowed : lines_wanted text ≤ most_lines
  pub few : length (line_list (data_behind behind)) < lines_wanted text

-- it has this text and these lines, and behind them stands what is told
pub record HasNext (bytes from text lines after : List ℕ) : Type 0 where
  pub behind : List ℕ
  pub closes : ClosesText bytes from text behind
  pub allowed : lines_wanted text ≤ most_lines
  pub data_lines : TakesLines (lines_wanted text) behind lines after

-- what stands next
abbrev pub IsNext : List ℕ → Next → Type 0
IsNext bytes End = list_all is_blank bytes ≡ true
IsNext bytes (Unended from) = OpensText bytes from.now
IsNext bytes (Long from) = WantsMany bytes from.now
IsNext bytes (Short from) = LacksLines bytes from.now
IsNext bytes (Found from text lines after) = HasNext bytes from.now text.now lines.now after.now
