-- Causes in order, of which the first that stands is told. This project's own.
use Rattle.std.specs.Prelude.{Bool, true, false, List, [], ◌∷◌, Option, Some, None, Result, Ok, Err}
use Rattle.std.specs.Option.{option_or}

-- the first cause of a list of points, each of which may stand
abbrev pub first_of : {A : Type 0} → List (Option A) → Option A
first_of [] = None
first_of (point ∷ points) = option_or point (first_of points)

-- a cause where a test fails
abbrev pub unless : {A : Type 0} → Bool → A → Option A
unless true cause = None
unless false cause = Some cause

-- what is given where no cause stands against it
abbrev pub given_unless : {A C : Type 0} → Option C → A → Result A C
given_unless None a = Ok a
given_unless (Some cause) a = Err cause
