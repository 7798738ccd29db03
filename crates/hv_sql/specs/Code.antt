-- What the functions that read lexemes give.
use Rattle.std.specs.Prelude.{◌≡◌, ⊤, List, ◌++◌, Option, Some, None, Result, Ok, Err}
use Rattle.hv_model.specs.declared.lexeme.Lexeme.{Lexeme}
use Rattle.hv_sql.specs.declared.stop.Stop.{Stop}
use Rattle.hv_sql.specs.declared.stop.Stop.TheVariants.{Memory, At}
use Rattle.hv_model.specs.Reading.{Read, on_read, gives_at}

-- what a reader gives, unless memory runs out
abbrev pub Gives : {A : Type 0} → Result (A × List Lexeme) Stop → Read A → Type 0
Gives (Ok x) read = read ≡ Ok x
Gives (Err Memory) read = ⊤
Gives (Err (At lexemes)) read = read ≡ Err lexemes

-- what a reader gives, or that it fails
abbrev pub Finds : {A : Type 0} → Option (A × List Lexeme) → Read A → Type 0
Finds (Some x) read = read ≡ Ok x
Finds None read = (at : List Lexeme) × (read ≡ Err at)

-- what a reader leaves, or that it fails
abbrev pub Passes : {A : Type 0} → Option (List Lexeme) → Read A → Type 0
Passes {A} (Some rest) read = (x : A) × (read ≡ Ok (x, rest))
Passes None read = (at : List Lexeme) × (read ≡ Err at)

-- a list that was read, behind others
abbrev pub with_front : {A : Type 0} → List A → Read (List A) → Read (List A)
with_front front read = on_read (λ xs. gives_at (front ++ xs)) read
