-- The laws of the language: lexemes are at most one statement, or have one fault. This project's own.
use Rattle.std.specs.Prelude.{◌≡◌, true, List, length, Ok, Err}
use Rattle.hv_model.specs.declared.lexeme.Lexeme.{Lexeme}
use Rattle.hv_model.specs.declared.tree.Ast.{Ast}
use Rattle.hv_model.specs.declared.tree.Ast.TheVariants.{Select}
use Rattle.hv_model.specs.declared.tree.SelectAst.{SelectAst}
use Rattle.hv_model.specs.SqlReading.{tree_at}
use Rattle.hv_model.specs.Bound.{is_grouped}
use Rattle.hv_model.specs.Fault.{IsStatement, IsSyntaxFault}

-- lexemes are at most one statement
abbrev pub OneTree : Type 0
OneTree = (lexemes : List Lexeme) (a b : Ast) → IsStatement lexemes a → IsStatement lexemes b → a ≡ b

-- what is read is a statement
abbrev pub TreesSound : Type 0
TreesSound = (lexemes : List Lexeme) (a : Ast) → tree_at lexemes ≡ Ok a → IsStatement lexemes a

-- each statement is read
abbrev pub TreesComplete : Type 0
TreesComplete = (lexemes : List Lexeme) (a : Ast) → IsStatement lexemes a → tree_at lexemes ≡ Ok a

-- what is told is the fault
abbrev pub FaultsSound : Type 0
FaultsSound = (lexemes at : List Lexeme) → tree_at lexemes ≡ Err at → IsSyntaxFault lexemes at

-- each fault is told
abbrev pub FaultsComplete : Type 0
FaultsComplete = (lexemes at : List Lexeme) → IsSyntaxFault lexemes at → tree_at lexemes ≡ Err at

-- lexemes have at most one fault
abbrev pub OneFault : Type 0
OneFault = (lexemes at other : List Lexeme) → IsSyntaxFault lexemes at → IsSyntaxFault lexemes other → at ≡ other

-- a statement has no fault
abbrev pub NoFaultToo : Type 0
NoFaultToo = (lexemes at : List Lexeme) (a : Ast) → IsStatement lexemes a → IsSyntaxFault lexemes at → ⊥

-- a select that is grouped has one place
abbrev pub OnePlace : Type 0
OnePlace = (lexemes : List Lexeme) (x : SelectAst) → tree_at lexemes ≡ Ok (Select x) → is_grouped x ≡ true → length x.places ≡ 1
