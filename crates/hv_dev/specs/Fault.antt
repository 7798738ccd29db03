-- Why a page was not written. This project's own.
use Rattle.std.specs.Prelude.{◌≡◌, ℕ}
use Rattle.hv_io.specs.Counts.{Rose}
use Rattle.hv_dev.specs.declared.sink.PutFault.{PutFault}
use Rattle.hv_dev.specs.declared.sink.PutFault.TheVariants.{Failed, Memory}

-- a write or a seal failed only where the count of faults rose; want of memory leaves the count
abbrev pub IsCaused : PutFault → ℕ → ℕ → Type 0
IsCaused Failed before now = Rose before now
IsCaused Memory before now = now ≡ before
