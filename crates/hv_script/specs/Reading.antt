-- How far a source was read. This project's own.
use Rattle.std.specs.Prelude.{◌≡◌, ℕ, ◌≤◌, List, [], length, Option, Some}
use Rattle.hv_io.specs.Bytes.{Read}
use Rattle.hv_model.specs.Script.{most_bytes}

-- all bytes were read and the source has no more, or more than a script has were read
pub record IsRead (bytes : List ℕ) (now : Option (List ℕ)) (all : List ℕ) : Type 0 where
  pub read : Read bytes now all
  pub ended : length all ≤ most_bytes → now ≡ Some []
