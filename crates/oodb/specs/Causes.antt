-- What the failures among the replies of a run stand on. This project's own.
use Rattle.std.specs.Prelude.{◌≡◌, ℕ, ◌+◌, ◌<◌, ◌≤◌, min, Bool, true, List, ◌++◌, Some, length, count_by, slice_get}
use Rattle.std.specs.List.{flat_map, sum_by}
use Rattle.hv_io.specs.Counts.{MAX_COUNT}
use Rattle.hv_dev.specs.Reading.{Landing, Back}
use Rattle.hv_model.specs.declared.script.Script.{Script}
use Rattle.hv_model.specs.declared.catalogue.Entry.{Entry}
use Rattle.hv_model.specs.declared.reply.Failure.{Failure}
use Rattle.hv_model.specs.declared.reply.Failure.TheVariants.{Memory}
use Rattle.hv_model.specs.declared.reply.Reply.{Reply}
use Rattle.hv_model.specs.declared.reply.Reply.TheVariants.{Failed}
use Rattle.hv_model.specs.Command.{database_after}
use Rattle.hv_world.specs.Causes.{RoseBy, is_read, is_write, failed_so, DamagesStand}

-- a count that is below its end did not rise
pub record IsCalm (before now : ℕ) : Type 0 where
  pub same : now ≡ before
  pub below : before < MAX_COUNT

-- want of memory is the one cause of a failure
abbrev pub OnlyMemoryFails : List Reply → Type 0
OnlyMemoryFails replies = (k n : ℕ) (cause : Failure) → slice_get replies k ≡ Some (Failed n cause) → cause ≡ Memory

-- so it is in each session
abbrev pub OnlyMemoryFailsIn : List (List Reply) → Type 0
OnlyMemoryFailsIn replies = (i : ℕ) (of_session : List Reply) → slice_get replies i ≡ Some of_session → OnlyMemoryFails of_session

-- how many replies of a session say that a read or a write failed
abbrev pub io_failures : List Reply → ℕ
io_failures of_session = count_by (failed_so is_read) of_session + count_by (failed_so is_write) of_session

-- all that landed, session by session
abbrev pub all_landed : {File : Type 0} → List (List (Landing File)) → List (Landing File)
all_landed landed = flat_map (λ of_session. of_session) landed

-- what the device has behind a run: as many ports out as before, its counts and reads with those of this run, session by session; and the failures of each session
-- stand on its reads, each damaged page on a read of its chunk's file. Where no read and no write failed for a reply the count is as before
pub record AreCaused {File : Type 0} (tells : Bool) (s : Script) (history : List Entry) (replies : List (List Reply)) (before after : Back File) : Type 0 where
  pub ports : after.out ≡ before.out
  pub landed : List (List (Landing File))
  pub landings : after.landings ≡ before.landings ++ all_landed landed
  pub reads_and_writes : RoseBy (sum_by io_failures replies) before.faults after.faults
  pub still : sum_by io_failures replies ≡ 0 → before.faults ≤ MAX_COUNT → after.faults ≡ before.faults
  pub files : List File
  pub count : length files ≡ (database_after s history (length history)).made
  pub paired : length landed ≡ length replies
  pub damage : (i : ℕ) (of_session : List Reply) (its : List (Landing File)) → slice_get replies i ≡ Some of_session → slice_get landed i ≡ Some its
      → DamagesStand tells s history of_session files its
  pub calm : tells ≡ true → IsCalm before.faults after.faults → OnlyMemoryFailsIn replies

-- whatever became of a run: as many ports are out as before, no count below its end fell, and what had landed stands
pub record DeviceKept {File : Type 0} (before after : Back File) : Type 0 where
  pub ports : after.out ≡ before.out
  pub faults : min before.faults MAX_COUNT ≤ after.faults
  pub landed : List (Landing File)
  pub landings : after.landings ≡ before.landings ++ landed
