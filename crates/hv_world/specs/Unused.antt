-- A device whose ports came back as they went. This project's own.
use Rattle.std.specs.Prelude.{◌≡◌, ◌⊎◌, ℕ, min}
use Rattle.hv_io.specs.Counts.{MAX_COUNT}
use Rattle.hv_dev.specs.Reading.{Back}

-- a count is as before, or at its end where it was past it
abbrev pub CountStands : ℕ → ℕ → Type 0
CountStands before now = (now ≡ before) ⊎ (now ≡ min before MAX_COUNT)

-- each port that went came back, having read and written nothing
pub record IsUnused {File : Type 0} (before after : Back File) : Type 0 where
  pub out : after.out ≡ before.out
  pub faults : CountStands before.faults after.faults
  pub submits : CountStands before.submits after.submits
  pub most : after.most ≡ before.most
  pub landings : after.landings ≡ before.landings
