-- What the failures among the replies of a run stand on. This project's own.
use Rattle.std.specs.Prelude.{◌≡◌, ◌⊎◌, ℕ, ◌+◌, ◌<◌, ◌≤◌, min, Bool, true, false, List, ◌++◌, Option, Some, None, length, count_by, slice_get}
use Rattle.hv_io.specs.Counts.{MAX_COUNT}
use Rattle.hv_dev.specs.Reading.{Landing, Back}
use Rattle.hv_model.specs.declared.script.Script.{Script}
use Rattle.hv_model.specs.declared.catalogue.Entry.{Entry}
use Rattle.hv_model.specs.declared.reply.Why.{Why}
use Rattle.hv_model.specs.declared.reply.Failure.{Failure}
use Rattle.hv_model.specs.declared.reply.Failure.TheVariants.{Read, Write, Damaged, Memory}
use Rattle.hv_model.specs.declared.reply.Reply.{Reply}
use Rattle.hv_model.specs.declared.reply.Reply.TheVariants.{Done, Rows, Refused, Failed}
use Rattle.hv_model.specs.Command.{database_after}
use Rattle.hv_world.specs.Reads.{PortSeen, IsIdle}
use Rattle.hv_world.specs.Damage.{is_digest_why, StandsOn, Serves}

-- a count rose by so many at least, or is at its end
pub record RoseBy (n before now : ℕ) : Type 0 where
  pub falls_never : min before MAX_COUNT ≤ now
  pub risen : min (before + n) MAX_COUNT ≤ now

-- whether a failure is one of a read
abbrev pub is_read : Failure → Bool
is_read Read = true
is_read Write = false
is_read (Damaged chunk page why) = false
is_read Memory = false

-- whether it is one of a write
abbrev pub is_write : Failure → Bool
is_write Read = false
is_write Write = true
is_write (Damaged chunk page why) = false
is_write Memory = false

-- whether it is a page of another digest
abbrev pub is_digest : Failure → Bool
is_digest Read = false
is_digest Write = false
is_digest (Damaged chunk page why) = is_digest_why why
is_digest Memory = false

-- whether a reply is a failure of some kind
abbrev pub failed_so : (Failure → Bool) → Reply → Bool
failed_so kind (Done at what) = false
failed_so kind (Rows at rows) = false
failed_so kind (Refused at cause) = false
failed_so kind (Failed at cause) = kind cause

abbrev pub failed_so_option : (Failure → Bool) → Option Reply → Bool
failed_so_option kind None = false
failed_so_option kind (Some r) = failed_so kind r

-- each Damaged reply stands on a read of its chunk's file that landed, of a page of the database that it tells; those of another digest on distinct reads; and each
-- read that landed has the digest of a page of a chunk of the history, or a reply tells it
pub record DamagesStand {File : Type 0} (tells : Bool) (s : Script) (history : List Entry) (replies : List Reply) (files : List File) (landed : List (Landing File)) : Type 0 where
  pub place : ℕ → ℕ
  pub stands : (k n number page : ℕ) (why : Why) → slice_get replies k ≡ Some (Failed n (Damaged number page why))
      → StandsOn tells (database_after s history n) files landed (place k) number page why
  pub distinct : (j k : ℕ) → failed_so_option is_digest (slice_get replies j) ≡ true → failed_so_option is_digest (slice_get replies k) ≡ true
      → place j ≡ place k → j ≡ k
  pub told : (j : ℕ) (read : Landing File) → slice_get landed j ≡ Some read
      → ((n : ℕ) × Serves (database_after s history n) files read) ⊎ ((k : ℕ) × (failed_so_option is_digest (slice_get replies k) ≡ true) × (place k ≡ j))

-- a count rose by so many at least, and not at all where none is counted
pub record RoseWith (n before now : ℕ) : Type 0 where
  pub by : RoseBy n before now
  pub still : n ≡ 0 → now ≡ before

-- what holds of a session's port: its counts rose with the failures among the session's replies and with them alone, and its reads are what the damage
-- stands on, by the files of all chunks ever made
pub record CausedBy {File : Type 0} (tells : Bool) (s : Script) (history : List Entry) (replies : List Reply) (port : PortSeen File) (files : List File) : Type 0 where
  pub reads : RoseWith (count_by (failed_so is_read) replies) 0 port.reading.read_faults
  pub writes : RoseWith (count_by (failed_so is_write) replies) 0 port.write_faults
  pub damage : DamagesStand tells s history replies files port.reading.landings

-- what holds of the port between two statements: it is idle, its counts rose with the failures and with them alone, and its reads are what the damage stands on
pub record CausedSoFar {File : Type 0} (tells : Bool) (s : Script) (history : List Entry) (replies : List Reply) (port : PortSeen File) : Type 0 where
  pub files : List File
  pub count : length files ≡ (database_after s history (length history)).made
  pub idle : IsIdle port
  pub reads : RoseWith (count_by (failed_so is_read) replies) 0 port.reading.read_faults
  pub writes : RoseWith (count_by (failed_so is_write) replies) 0 port.write_faults
  pub damage : DamagesStand tells s history replies files port.reading.landings

-- a count that is below its end did not rise
pub record IsCalm (before now : ℕ) : Type 0 where
  pub same : now ≡ before
  pub below : before < MAX_COUNT

-- want of memory is the one cause of a failure
abbrev pub OnlyMemoryFails : List Reply → Type 0
OnlyMemoryFails replies = (k n : ℕ) (cause : Failure) → slice_get replies k ≡ Some (Failed n cause) → cause ≡ Memory

-- what the device has behind a run: as many ports out as before, its counts and reads with those of this run; and the failures stand on these, each damaged page on
-- a read of its chunk's file. Where no read and no write failed for a reply the count is as before
pub record AreCaused {File : Type 0} (tells : Bool) (s : Script) (history : List Entry) (replies : List Reply) (before after : Back File) : Type 0 where
  pub ports : after.out ≡ before.out
  pub landed : List (Landing File)
  pub landings : after.landings ≡ before.landings ++ landed
  pub reads_and_writes : RoseBy (count_by (failed_so is_read) replies + count_by (failed_so is_write) replies) before.faults after.faults
  pub still : count_by (failed_so is_read) replies + count_by (failed_so is_write) replies ≡ 0 → before.faults ≤ MAX_COUNT → after.faults ≡ before.faults
  pub files : List File
  pub count : length files ≡ (database_after s history (length history)).made
  pub damage : DamagesStand tells s history replies files landed
  pub calm : tells ≡ true → IsCalm before.faults after.faults → OnlyMemoryFails replies

-- whatever became of a run: as many ports are out as before, no count below its end fell, and what had landed stands
pub record DeviceKept {File : Type 0} (before after : Back File) : Type 0 where
  pub ports : after.out ≡ before.out
  pub faults : min before.faults MAX_COUNT ≤ after.faults
  pub landed : List (Landing File)
  pub landings : after.landings ≡ before.landings ++ landed
