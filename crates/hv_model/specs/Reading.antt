-- Readers of lexemes: a value and the rest, or the lexemes from the one at fault on. Each way to put grammars together has one here.
use Rattle.std.specs.Prelude.{ℕ, zero, suc, Bool, true, false, List, [], ◌∷◌, length, Option, Some, None, Result, Ok, Err, if◌then◌else◌}
use Rattle.hv_model.specs.declared.lexeme.Lexeme.{Lexeme}
use Rattle.hv_model.specs.declared.lexeme.Kind.{Kind}
use Rattle.hv_model.specs.Terminals.{kind, same_kind}

-- what a reader gives
abbrev pub Read : Type 0 → Type 0
Read A = Result (A × List Lexeme) (List Lexeme)

-- what reads lexemes
abbrev pub Reader : Type 0 → Type 0
Reader A = List Lexeme → Read A

-- a reader behind what was read
abbrev pub on_read : {A B : Type 0} → (A → Reader B) → Read A → Read B
on_read q (Ok x) = q x.0 x.1
on_read q (Err at) = Err at

-- p, and behind it q of its value
infixl 10 ◌>>=◌
abbrev pub ◌>>=◌ : {A B : Type 0} → Reader A → (A → Reader B) → Reader B
(p >>= q) lexemes = on_read q (p lexemes)

-- p, and behind it q
infixl 10 ◌>>◌
abbrev pub ◌>>◌ : {A B : Type 0} → Reader A → Reader B → Reader B
(p >> q) lexemes = on_read (λ _. q) (p lexemes)

-- no lexeme, with this value
abbrev pub gives_at : {A : Type 0} → A → Reader A
gives_at value lexemes = Ok (value, lexemes)

-- the value of the first of some lexemes, or the fault there
abbrev pub read_one : {A : Type 0} → Option A → List Lexeme → List Lexeme → Read A
read_one (Some a) lexemes rest = Ok (a, rest)
read_one None lexemes rest = Err lexemes

-- one lexeme that a test gives a value
abbrev pub one_at : {A : Type 0} → (Lexeme → Option A) → Reader A
one_at test [] = Err []
one_at test (t ∷ ts) = read_one (test t) (t ∷ ts) ts

-- whether the next lexeme is of this kind
abbrev pub next_is : Kind → List Lexeme → Bool
next_is n [] = false
next_is n (t ∷ _) = same_kind (kind t) n

-- the first reader where the next lexeme is of this kind, else the second
abbrev pub choose : {A : Type 0} → Kind → Reader A → Reader A → Reader A
choose n p q lexemes = if next_is n lexemes then p lexemes else q lexemes

-- [ p ], where p begins with this kind
abbrev pub optional_at : {A : Type 0} → Kind → Reader A → Reader (Option A)
optional_at n p = choose n (do x ← p; gives_at (Some x)) (gives_at None)

-- whether p stands there, where p begins with this kind
abbrev pub given_at : {A : Type 0} → Kind → Reader A → Reader Bool
given_at n p = choose n (do p; gives_at true) (gives_at false)

-- { s p }, at most this many times, where s is of this kind
abbrev pub more_up_to_at : {A B : Type 0} → ℕ → Kind → Reader B → Reader A → Reader (List A)
more_up_to_at zero n s p = gives_at []
more_up_to_at (suc room) n s p = choose n (do s; x ← p; xs ← more_up_to_at room n s p; gives_at (x ∷ xs)) (gives_at [])

-- { s p }
abbrev pub more_at : {A B : Type 0} → Kind → Reader B → Reader A → Reader (List A)
more_at n s p lexemes = more_up_to_at (length lexemes) n s p lexemes

-- p { s p }
abbrev pub list_of_at : {A B : Type 0} → Kind → Reader B → Reader A → Reader (List A)
list_of_at n s p = do x ← p; xs ← more_at n s p; gives_at (x ∷ xs)

-- p { s p }, of at most this many and one
abbrev pub list_of_up_to_at : {A B : Type 0} → ℕ → Kind → Reader B → Reader A → Reader (List A)
list_of_up_to_at room n s p = do x ← p; xs ← more_up_to_at room n s p; gives_at (x ∷ xs)

-- a value where nothing is left, else the lexemes that are
abbrev pub ended : {A : Type 0} → A → List Lexeme → Result A (List Lexeme)
ended a [] = Ok a
ended a (t ∷ us) = Err (t ∷ us)

-- what was read, if nothing is left
abbrev pub to_end : {A : Type 0} → Read A → Result A (List Lexeme)
to_end (Ok x) = ended x.0 x.1
to_end (Err at) = Err at
