-- The terminals of the grammar: tests of one lexeme. This project's own, after the lexical elements of ISO/IEC 9075.
use Rattle.std.specs.Prelude.{◌≡◌, ◌↔◌, ℕ, Bool, true, false, IsTrue, ◌^◌, nat_le, nat_lt, List, [], ◌∷◌, Option, Some, None, if◌then◌else◌}
use Rattle.std.specs.Str.{is_utf8}
use Rattle.std.specs.Option.{option_map}
use denote.Enum.Bare.{sameb}
use Rattle.hv_model.specs.Token.{is_name}
use Rattle.hv_model.specs.declared.lexeme.Lexeme.{Lexeme}
use Rattle.hv_model.specs.declared.lexeme.What.{What}
use Rattle.hv_model.specs.declared.lexeme.What.TheVariants as what
use Rattle.hv_model.specs.declared.lexeme.Keyword.{Keyword}
use Rattle.hv_model.specs.declared.lexeme.Symbol.{Symbol}
use Rattle.hv_model.specs.declared.lexeme.Symbol.TheVariants as s
use Rattle.hv_model.specs.contracts.lexeme.Keyword as keyword_type
use Rattle.hv_model.specs.contracts.lexeme.Symbol as symbol_type
use Rattle.hv_model.specs.declared.lexeme.Kind.{Kind}
use Rattle.hv_model.specs.declared.lexeme.Kind.TheVariants as kinds
use Rattle.hv_model.specs.declared.tree.Word.{Word}
use Rattle.hv_model.specs.declared.tree.Numeral.{Numeral}
use Rattle.hv_model.specs.declared.tree.Cmp.{Cmp}
use Rattle.hv_model.specs.declared.tree.Cmp.TheVariants as c

-- what a lexeme is, whatever a name's or a text's bytes and a number's value
abbrev pub kind_of : What → Kind
kind_of (what.Name _) = kinds.Name
kind_of (what.Number _) = kinds.Number
kind_of (what.Text _) = kinds.Text
kind_of (what.Symbol s) = kinds.Symbol s
kind_of (what.Keyword k) = kinds.Keyword k
kind_of what.Other = kinds.Other

-- the kind of a lexeme, wherever it stands
abbrev pub kind : Lexeme → Kind
kind t = kind_of t.what

-- whether two kinds are one; of two symbols and of two keywords `==` says it
abbrev pub same_kind : Kind → Kind → Bool
same_kind kinds.Name kinds.Name = true
same_kind kinds.Number kinds.Number = true
same_kind kinds.Text kinds.Text = true
same_kind kinds.Other kinds.Other = true
same_kind (kinds.Symbol s) (kinds.Symbol r) = sameb symbol_type.the_type s r
same_kind (kinds.Keyword k) (kinds.Keyword j) = sameb keyword_type.the_type k j
same_kind _ _ = false

-- whether a text may have this lexeme: a name is one token, a number's value is capped, a text is UTF-8
abbrev pub may_be : What → Bool
may_be (what.Name name) = is_name name
may_be (what.Number value) = nat_lt value (2 ^ 64)
may_be (what.Text text) = is_utf8 text
may_be (what.Symbol _) = true
may_be (what.Keyword _) = true
may_be what.Other = false

-- what lexemes are, wherever they stand
abbrev pub whats : List Lexeme → List What
whats [] = []
whats (t ∷ ts) = t.what ∷ whats ts

-- the byte of a lexeme of this kind
abbrev pub of_kind : Kind → Lexeme → Option ℕ
of_kind n t = if same_kind (kind t) n then Some t.byte else None

-- the byte of this symbol
abbrev pub is_symbol : Symbol → Lexeme → Option ℕ
is_symbol s = of_kind (kinds.Symbol s)

-- the byte of this keyword
abbrev pub is_keyword : Keyword → Lexeme → Option ℕ
is_keyword k = of_kind (kinds.Keyword k)

-- a name as a word
abbrev pub word_of : What → ℕ → Option Word
word_of (what.Name name) byte = Some (record { name = name; byte = byte })
word_of _ byte = None

-- a name
abbrev pub is_word : Lexeme → Option Word
is_word t = word_of t.what t.byte

-- a number's value and byte, if it is at most this
abbrev pub number_of : ℕ → What → ℕ → Option Numeral
number_of most (what.Number value) byte = if nat_le value most then Some (record { value = value; byte = byte }) else None
number_of most _ byte = None

-- a number of at most this value
abbrev pub is_number : ℕ → Lexeme → Option Numeral
is_number most t = number_of most t.what t.byte

-- a text's bytes
abbrev pub text_of : What → Option (List ℕ)
text_of (what.Text text) = Some text
text_of _ = None

-- a text
abbrev pub is_text : Lexeme → Option (List ℕ)
is_text t = text_of t.what

-- what a symbol compares by; `<>` and `!=` mean the same
abbrev pub cmp_of : Symbol → Option Cmp
cmp_of s.Equal = Some c.Eq
cmp_of s.Unequal = Some c.Ne
cmp_of s.NotEqual = Some c.Ne
cmp_of s.Less = Some c.Lt
cmp_of s.AtMost = Some c.Le
cmp_of s.Greater = Some c.Gt
cmp_of s.AtLeast = Some c.Ge
cmp_of _ = None

-- a comparison and the byte of its symbol
abbrev pub comparison_of : What → ℕ → Option (Cmp × ℕ)
comparison_of (what.Symbol s) byte = option_map (λ cmp. (cmp, byte)) (cmp_of s)
comparison_of _ byte = None

-- a comparison
abbrev pub is_comparison : Lexeme → Option (Cmp × ℕ)
is_comparison t = comparison_of t.what t.byte

-- two kinds are told to be one exactly where they are
abbrev pub KindsCompared : Type 0
KindsCompared = (a b : Kind) → IsTrue (same_kind a b) ↔ (a ≡ b)

-- what is of a symbol's kind is that symbol, and what is of a keyword's kind that keyword
abbrev pub KindsApart : Type 0
KindsApart =
    ((w : What) (s : Symbol) → kind_of w ≡ kinds.Symbol s → w ≡ what.Symbol s) × ((w : What) (k : Keyword) → kind_of w ≡ kinds.Keyword k → w ≡ what.Keyword k)
