-- What a statement's text says: its tree or its fault, and the lines of data that it takes. This project's own.
use Rattle.std.specs.Prelude.{ℕ, List, length, Option, Some, None, Result, Ok, Err}
use Rattle.hv_model.specs.declared.lexeme.Lexeme.{Lexeme}
use Rattle.hv_model.specs.declared.lexeme.Keyword.TheVariants as k
use Rattle.hv_model.specs.declared.tree.Ast.{Ast}
use Rattle.hv_model.specs.Lexed.{lexemes}
use Rattle.hv_model.specs.Fault.{place_of}
use Rattle.hv_model.specs.Reading.{Reader, ◌>>=◌, ◌>>◌, gives_at, to_end}
use Rattle.hv_model.specs.SqlReading.{tree_at, keyword_at, name_at, number_up_to_at}

-- a tree, or the byte of the lexeme at fault; the end where the fault is there
abbrev pub placed : ℕ → Result Ast (List Lexeme) → Result Ast ℕ
placed end (Ok a) = Ok a
placed end (Err at) = Err (place_of at end)

-- the tree of a text, or the byte of the first token with which no statement goes on
abbrev pub parsed : List ℕ → Result Ast ℕ
parsed text = placed (length text) (tree_at (lexemes text))

-- a tree, where there is one
abbrev pub some_tree : Result Ast ℕ → Option Ast
some_tree (Ok a) = Some a
some_tree (Err byte) = None

-- the tree of a text, where it has one
abbrev pub tree_of : List ℕ → Option Ast
tree_of text = some_tree (parsed text)

-- the greatest value that a number is told by; it stands for all that are greater
abbrev pub largest_number : ℕ
largest_number = 18446744073709551615

-- IMPORT INTO name LINES number, whatever the number
unfoldable pub import_lines_at : Reader ℕ
import_lines_at = do
  keyword_at k.Import
  keyword_at k.Into
  name_at
  keyword_at k.Lines
  lines ← number_up_to_at largest_number
  gives_at lines.value

-- a number that was read, else 0
abbrev pub or_zero : Result ℕ (List Lexeme) → ℕ
or_zero (Ok n) = n
or_zero (Err at) = 0

-- how many lines of data a text takes: as many as it says where it is exactly IMPORT INTO name LINES number, else none
abbrev pub lines_wanted : List ℕ → ℕ
lines_wanted text = or_zero (to_end (import_lines_at (lexemes text)))
