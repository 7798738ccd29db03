-- A text that completes what stands before a fault. This project's own.
use Rattle.std.specs.Prelude.{◌≡◌, ℕ, nat_lt, List, [], ◌∷◌, ◌++◌, length, take, if◌then◌else◌}
use Rattle.hv_model.specs.declared.lexeme.Token.{Token}
use Rattle.hv_model.specs.declared.lexeme.Lexeme.{Lexeme}
use Rattle.hv_model.specs.declared.tree.Ast.{Ast}
use Rattle.hv_model.specs.Lexemes.{tokens_of}
use Rattle.hv_model.specs.Lexed.{lexemes_of, lexemes}
use Rattle.hv_model.specs.Fault.{IsStatement, IsSyntaxFault, place_of}

-- the tokens that begin before a byte, where tokens stand in order
abbrev pub before : ℕ → List Token → List Token
before byte [] = []
before byte (t ∷ ts) = if nat_lt t.from byte then t ∷ before byte ts else []

-- the bytes before this one, with others behind them, are a statement's text; and their tokens begin with those that begin before the byte
pub record Completed (text : List ℕ) (byte : ℕ) : Type 0 where
  pub more : List ℕ
  pub tree : Ast
  pub is : IsStatement (lexemes (take byte text ++ more)) tree
  pub behind : List Token
  pub same : tokens_of (take byte text ++ more) ≡ before byte (tokens_of text) ++ behind

-- the law of faults in texts: what stands before a fault is completed by bytes
abbrev pub FaultsCompleted : Type 0
FaultsCompleted = (text : List ℕ) (at : List Lexeme) → IsSyntaxFault (lexemes text) at → Completed text (place_of at (length text))

-- and with the token at fault no statement's text begins: none that has the same bytes up to the token's end and the same tokens up to it
abbrev pub FaultsFinal : Type 0
FaultsFinal =
    (text other : List ℕ) (front : List Token) (t : Token) (us behind : List Token) (a : Ast) → tokens_of text ≡ front ++ t ∷ us
    → IsSyntaxFault (lexemes text) (lexemes_of text (t ∷ us)) → take t.to other ≡ take t.to text → tokens_of other ≡ front ++ t ∷ behind
    → IsStatement (lexemes other) a → ⊥
