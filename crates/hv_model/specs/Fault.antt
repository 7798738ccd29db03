-- Statements and their faults: the token at which lexemes stop being the beginning of a statement. This project's own.
use Rattle.std.specs.Prelude.{◌≡◌, ℕ, Bool, true, List, [], ◌∷◌, ◌++◌}
use Rattle.std.specs.List.{list_all}
use Rattle.hv_model.specs.declared.lexeme.Lexeme.{Lexeme}
use Rattle.hv_model.specs.declared.lexeme.What.{What}
use Rattle.hv_model.specs.declared.tree.Ast.{Ast}
use Rattle.hv_model.specs.Terminals.{may_be, whats}
use Rattle.hv_model.specs.Sql.{statement}

-- these lexemes are this statement, whole
abbrev pub IsStatement : List Lexeme → Ast → Type 0
IsStatement lexemes a = statement lexemes [] a

-- the lexemes from the one at fault on, or none where the fault is at the end: what stands before them begins a statement, which lexemes that
-- pass this test complete, wherever they stand, and no statement begins with that and the one at fault
pub record IsFaultBy (good : What → Bool) (lexemes at : List Lexeme) : Type 0 where
  pub front : List Lexeme
  pub is : lexemes ≡ front ++ at
  pub more : List What
  pub real : list_all good more ≡ true
  pub begins : (us : List Lexeme) → whats us ≡ more → (a : Ast) × IsStatement (front ++ us) a
  pub ends : (t : Lexeme) (us after : List Lexeme) (a : Ast) → at ≡ t ∷ us → IsStatement (front ++ t ∷ after) a → ⊥
  pub short : at ≡ [] → (a : Ast) → IsStatement lexemes a → ⊥

-- the same where lexemes complete it that a text may have
abbrev pub IsSyntaxFault : List Lexeme → List Lexeme → Type 0
IsSyntaxFault lexemes at = IsFaultBy may_be lexemes at

-- the byte of a fault: that of the lexeme there, or the end
abbrev pub place_of : List Lexeme → ℕ → ℕ
place_of [] end = end
place_of (t ∷ _) end = t.byte
