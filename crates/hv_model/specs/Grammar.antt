-- Grammars: which lexemes are which tree. A grammar of A says "these lexemes are this A, and then the rest". This project's own.
use Rattle.std.specs.Prelude.{◌≡◌, ◌⊎◌, ℕ, zero, suc, Bool, true, false, List, [], ◌∷◌, Option, Some, None}
use Rattle.hv_model.specs.declared.lexeme.Lexeme.{Lexeme}

-- which lexemes, before which rest, are which A
abbrev pub Grammar : Type 0 → Type 1
Grammar A = List Lexeme → List Lexeme → A → Type 0

-- an A, and behind it what its value allows
pub record Then {A B : Type 0} (R : List Lexeme → List Lexeme → A → Type 0) (Q : A → List Lexeme → List Lexeme → B → Type 0)
    (lexemes rest : List Lexeme) (b : B) : Type 0 where
  pub value : A
  pub middle : List Lexeme
  pub first : R lexemes middle value
  pub second : Q value middle rest b

-- R, and behind it Q of its value
infixl 10 ◌>>=◌
abbrev pub ◌>>=◌ : {A B : Type 0} → Grammar A → (A → Grammar B) → Grammar B
(R >>= Q) lexemes rest b = Then R Q lexemes rest b

-- R, and behind it Q
infixl 10 ◌>>◌
abbrev pub ◌>>◌ : {A B : Type 0} → Grammar A → Grammar B → Grammar B
(R >> Q) lexemes rest b = Then R (λ _. Q) lexemes rest b

-- no lexeme, with this value
abbrev pub gives : {A : Type 0} → A → Grammar A
gives value lexemes rest a = (lexemes ≡ rest) × (value ≡ a)

-- one lexeme that a test gives a value
abbrev pub one : {A : Type 0} → (Lexeme → Option A) → Grammar A
one test [] rest a = ⊥
one test (t ∷ ts) rest a = (test t ≡ Some a) × (ts ≡ rest)

-- one of two
infixr 5 ◌or◌
abbrev pub ◌or◌ : {A : Type 0} → Grammar A → Grammar A → Grammar A
(R or S) lexemes rest a = R lexemes rest a ⊎ S lexemes rest a

-- [ R ]
abbrev pub optional : {A : Type 0} → Grammar A → Grammar (Option A)
optional R = (do x ← R; gives (Some x)) or gives None

-- whether it stands there: [ R ], with no value of its own
abbrev pub given : {A : Type 0} → Grammar A → Grammar Bool
given R = (do R; gives true) or gives false

-- { S R }, at most this many times
abbrev pub more_up_to : {A B : Type 0} → ℕ → Grammar B → Grammar A → Grammar (List A)
more_up_to zero S R = gives []
more_up_to (suc n) S R = (do S; x ← R; xs ← more_up_to n S R; gives (x ∷ xs)) or gives []

-- { S R }
pub record More {A B : Type 0} (S : List Lexeme → List Lexeme → B → Type 0) (R : List Lexeme → List Lexeme → A → Type 0)
    (lexemes rest : List Lexeme) (xs : List A) : Type 0 where
  pub count : ℕ
  pub are : more_up_to count S R lexemes rest xs

-- { S R }, as a grammar
abbrev pub more : {A B : Type 0} → Grammar B → Grammar A → Grammar (List A)
more S R lexemes rest xs = More S R lexemes rest xs

-- R { S R }
abbrev pub list_of : {A B : Type 0} → Grammar B → Grammar A → Grammar (List A)
list_of S R = do x ← R; xs ← more S R; gives (x ∷ xs)

-- R { S R }, of at most this many and one
abbrev pub list_of_up_to : {A B : Type 0} → ℕ → Grammar B → Grammar A → Grammar (List A)
list_of_up_to n S R = do x ← R; xs ← more_up_to n S R; gives (x ∷ xs)
