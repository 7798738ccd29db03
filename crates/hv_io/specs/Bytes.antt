-- What a source has left, and what a sink has taken.
use Rattle.std.specs.Prelude.{◌≡◌, ℕ, ◌≤◌, List, ◌++◌, length, take, drop, Option, Some, IfSome}

-- the source's first n bytes stand at the beginning of the piece, and were taken off
pub record Given (bytes : List ℕ) (now : Option (List ℕ)) (n : ℕ) (piece : List ℕ) : Type 0 where
  pub within : n ≤ length bytes
  pub front : take n piece ≡ take n bytes
  pub rest : now ≡ Some (drop n bytes)

-- a read that answers n, where the source tells what it has left
abbrev pub Gives : Option (List ℕ) → Option (List ℕ) → ℕ → List ℕ → Type 0
Gives before now n piece = IfSome before (λ bytes. Given bytes now n piece)

-- all these bytes were read, where the source tells what it has left
pub record Read (bytes : List ℕ) (now : Option (List ℕ)) (all : List ℕ) : Type 0 where
  pub rest : List ℕ
  pub whole : bytes ≡ all ++ rest
  pub left : now ≡ Some rest

abbrev pub Consumes : Option (List ℕ) → Option (List ℕ) → List ℕ → Type 0
Consumes before now all = IfSome before (λ bytes. Read bytes now all)

-- these bytes were taken, where the sink tells what it took
abbrev pub Takes : Option (List ℕ) → Option (List ℕ) → List ℕ → Type 0
Takes before now piece = IfSome before (λ bytes. now ≡ Some (bytes ++ piece))

-- what a clause sees of a sink
pub record Seen : Type 0 where
  pub taken : Option (List ℕ)
  pub faults : ℕ
  pub zeros : ℕ
