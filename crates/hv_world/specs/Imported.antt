-- Why the chunk of an import was not made. This project's own.
use Rattle.std.specs.Prelude.{◌≡◌, ℕ}
use Rattle.hv_io.specs.Counts.{Rose}
use Rattle.hv_model.specs.declared.reply.Failure.{Failure}
use Rattle.hv_model.specs.declared.reply.Failure.TheVariants.{Read, Write, Damaged, Memory}

-- a write failed and the count of faults rose, or want of memory
abbrev pub IsUnbuilt : Failure → ℕ → ℕ → Type 0
IsUnbuilt Read before now = ⊥
IsUnbuilt Write before now = Rose before now
IsUnbuilt (Damaged chunk page why) before now = ⊥
IsUnbuilt Memory before now = now ≡ before
