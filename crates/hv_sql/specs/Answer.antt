-- What the parser answers.
use Rattle.std.specs.Prelude.{◌≡◌, ℕ, ⊤, List, Result, Ok, Err}
use Rattle.hv_model.specs.declared.lexeme.Lexeme.{Lexeme}
use Rattle.hv_model.specs.declared.tree.Ast.{Ast}
use Rattle.hv_sql.specs.declared.parsing.SqlFault.{SqlFault}
use Rattle.hv_sql.specs.declared.parsing.SqlFault.TheVariants.{Syntax, Memory}
use Rattle.hv_model.specs.Fault.{IsSyntaxFault, place_of}

-- this tree and no other, unless memory runs out
abbrev pub IsTree : Result Ast SqlFault → Ast → Type 0
IsTree (Ok b) a = b ≡ a
IsTree (Err (Syntax _)) a = ⊥
IsTree (Err Memory) a = ⊤

-- a fault at this byte, unless memory runs out
abbrev pub IsSyntax : Result Ast SqlFault → ℕ → Type 0
IsSyntax (Ok b) byte = ⊥
IsSyntax (Err (Syntax told)) byte = told ≡ byte
IsSyntax (Err Memory) byte = ⊤

-- where a fault is told, the lexemes have one at that byte
abbrev pub Explains : List Lexeme → ℕ → SqlFault → Type 0
Explains lexemes end (Syntax byte) = (at : List Lexeme) × IsSyntaxFault lexemes at × (byte ≡ place_of at end)
Explains lexemes end Memory = ⊤

-- what the reading of the rules gives, unless memory runs out
abbrev pub Answers : Result Ast SqlFault → ℕ → Result Ast (List Lexeme) → Type 0
Answers (Ok a) end read = read ≡ Ok a
Answers (Err (Syntax byte)) end read = (at : List Lexeme) × (read ≡ Err at) × (byte ≡ place_of at end)
Answers (Err Memory) end read = ⊤

-- the text is read so, unless memory runs out
abbrev pub Reads : Result Ast SqlFault → Result Ast ℕ → Type 0
Reads (Ok a) p = p ≡ Ok a
Reads (Err (Syntax byte)) p = p ≡ Err byte
Reads (Err Memory) p = ⊤
