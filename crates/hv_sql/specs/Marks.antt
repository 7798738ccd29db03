-- Whether a text is SESSION or BARRIER, by its tree. This project's own.
use Rattle.std.specs.Prelude.{◌≡◌, ℕ, true, List, [], ◌∷◌, Option, Some, None}
use Rattle.hv_model.specs.declared.lexeme.Lexeme.{Lexeme}
use Rattle.hv_model.specs.declared.tree.Ast.{Ast}
use Rattle.hv_model.specs.declared.tree.Ast.TheVariants as ast
use Rattle.hv_model.specs.declared.tree.Word.{Word}
use Rattle.hv_model.specs.Terminals.{is_word}
use Rattle.hv_model.specs.Script.{has_reply}
use Rattle.hv_sql.specs.declared.marking.Mark.{Mark}
use Rattle.hv_sql.specs.declared.marking.Mark.TheVariants.{Session, Barrier}

-- the word that lexemes are, where they are one name alone
abbrev pub one_word : List Lexeme → Option Word
one_word (t ∷ []) = is_word t
one_word _ = None

-- its name, wherever it stands
abbrev pub IsLastName : Option (List ℕ) → List Lexeme → Type 0
IsLastName (Some name) lexemes = (byte : ℕ) × (one_word lexemes ≡ Some (record { name = name; byte = byte }))
IsLastName None lexemes = one_word lexemes ≡ None

-- what a tree says to the texts behind it
abbrev pub IsMark : Option Mark → Option Ast → Type 0
IsMark (Some (Session name)) tree = (byte : ℕ) × (tree ≡ Some (ast.Session (record { name = name.now; byte = byte })))
IsMark (Some Barrier) tree = tree ≡ Some ast.Barrier
IsMark None tree = has_reply tree ≡ true
