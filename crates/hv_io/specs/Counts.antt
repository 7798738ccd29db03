-- Counts of 64 bits that stay at their end.
use Rattle.std.specs.Prelude.{ℕ, ◌+◌, ◌≤◌, min}

-- the end of a count: it stays here
abbrev pub MAX_COUNT : ℕ
MAX_COUNT = 18446744073709551615

-- the count rose by one at least, or was at its end
pub record Rose (before now : ℕ) : Type 0 where
  pub falls_never : before ≤ now
  pub risen : min (before + 1) MAX_COUNT ≤ now
