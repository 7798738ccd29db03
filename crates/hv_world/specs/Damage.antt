-- When a page that was read is not the one that was written, and why a statement over pages failed. This project's own; a digest is
-- SHA-256 (FIPS 180-4).
use Rattle.std.specs.Prelude.{◌≡◌, ◌⊎◌, ℕ, ◌-◌, ◌<◌, ◌≤◌, Bool, true, false, List, [], length, get_or, Some, Result, Ok, Err, slice_get}
use Rattle.sha2.specs.Sha256.{sha256}
use Rattle.hv_row.specs.declared.schema.Column.{Column}
use Rattle.hv_io.specs.Counts.{Rose}
use Rattle.hv_page.specs.Layout.{written_version}
use Rattle.hv_page.specs.Fault.{heap_fault}
use Rattle.hv_page.specs.Chunk.{AreHeapPages}
use Rattle.hv_dev.specs.Reading.{Reading, Landing}
use Rattle.hv_view.specs.View.{Viewed}
use Rattle.hv_model.specs.Database.{RowChunk, RowTable, RowDatabase}
use Rattle.hv_model.specs.declared.reply.Why.{Why}
use Rattle.hv_model.specs.declared.reply.Why.TheVariants.{Digest, Form}
use Rattle.hv_model.specs.declared.reply.Failure.{Failure}
use Rattle.hv_model.specs.declared.reply.Failure.TheVariants.{Read, Write, Damaged, Memory}
use Rattle.hv_model.specs.declared.reply.Reply.{Reply}
use Rattle.hv_model.specs.declared.reply.Reply.TheVariants.{Done, Rows, Refused, Failed}
use Rattle.hv_world.specs.Reads.{PortSeen, Brought, AllSince, IsStill}

-- why bytes don't serve as the page of a number under a schema that has this digest: they have another one, or it and no form
abbrev pub IsWhy : List Column → ℕ → List ℕ → List ℕ → Why → Type 0
IsWhy schema page wanted bytes (Digest recorded found) = (recorded ≡ wanted) × (found ≡ sha256 bytes) × ¬ (found ≡ recorded)
IsWhy schema page wanted bytes (Form byte) = (sha256 bytes ≡ wanted) × (heap_fault written_version page schema bytes ≡ Some byte)

-- whether it is a page of another digest
abbrev pub is_digest_why : Why → Bool
is_digest_why (Digest recorded found) = true
is_digest_why (Form byte) = false

-- what a read brought has the digest that the chunk records for that page, and it is a read of the chunk's file
pub record ServesChunk {File : Type 0} (chunk : Viewed File) (read : Landing File) : Type 0 where
  pub of_file : read.file ≡ chunk.file
  pub within : read.page < chunk.heap_pages
  pub digest : sha256 read.bytes ≡ get_or chunk.digests read.page []

-- a page of a chunk doesn't serve as it was read, and no other read is passed over; never where the file's type tells
pub record IsDamage {File : Type 0} (tells : Bool) (number : ℕ) (chunk : Viewed File) (before after : List (Landing File)) (told page : ℕ) (why : Why) : Type 0 where
  pub untold : ¬ (tells ≡ true)
  pub numbered : told ≡ number
  pub within : page < chunk.heap_pages
  pub brought : Brought before after chunk.file page
  pub because : IsWhy chunk.schema page (get_or chunk.digests page []) brought.read.bytes why
  pub others : AllSince (λ place read. ServesChunk chunk read ⊎ ((place ≡ brought.place) × (is_digest_why why ≡ true))) before after

-- no count of reads rose, and each read that landed since serves
abbrev pub AllServeChunk : {File : Type 0} → Viewed File → Reading File → Reading File → Type 0
AllServeChunk chunk before after = (after.read_faults ≡ before.read_faults) × AllSince (λ place read. ServesChunk chunk read) before.landings after.landings

-- what became of the reads of a chunk of a number: all brought what is recorded; or one failed; or a page doesn't serve; or memory was wanting, and no fault
-- is hidden by it
abbrev pub ReadsChunk : {File : Type 0} → Bool → ℕ → Viewed File → Reading File → Reading File → Result (Unit {0}) Failure → Type 0
ReadsChunk tells number chunk before after (Ok done) = AllServeChunk chunk before after
ReadsChunk tells number chunk before after (Err Read) = Rose before.read_faults after.read_faults × AllSince (λ place read. ServesChunk chunk read) before.landings after.landings
ReadsChunk tells number chunk before after (Err Write) = ⊥
ReadsChunk tells number chunk before after (Err (Damaged told page why)) = (after.read_faults ≡ before.read_faults) × IsDamage tells number chunk before.landings after.landings told page why
ReadsChunk tells number chunk before after (Err Memory) = AllServeChunk chunk before after

-- a page of a chunk of a database, as it was written under the table's schema
pub record WasWritten (s : RowDatabase) (number page : ℕ) (schema : List Column) (bytes : List ℕ) : Type 0 where
  pub at : ℕ
  pub table : RowTable
  pub stands : slice_get s.tables at ≡ Some table
  pub place : ℕ
  pub chunk : RowChunk
  pub has : slice_get table.chunks place ≡ Some chunk
  pub numbered : chunk.number ≡ number
  pub schema_is : table.schema ≡ schema
  pub pages : List (List ℕ)
  pub heap : AreHeapPages written_version schema pages chunk.content
  pub page_is : slice_get pages page ≡ Some bytes

-- the file of the chunk of a number, among the files of all chunks ever made, by number from 1
abbrev pub IsFileOf : {File : Type 0} → List File → ℕ → File → Type 0
IsFileOf files number file = (0 < number) × (slice_get files (number - 1) ≡ Some file)

-- what a read brought has the digest of a page of a chunk of the database, and it is a read of that chunk's file
pub record Serves {File : Type 0} (s : RowDatabase) (files : List File) (read : Landing File) : Type 0 where
  pub number : ℕ
  pub schema : List Column
  pub written : List ℕ
  pub was : WasWritten s number read.page schema written
  pub of_file : IsFileOf files number read.file
  pub digest : sha256 read.bytes ≡ sha256 written

-- the read that landed at a place is of that chunk's file, and brought bytes that don't serve as a page of it; never where the files' type tells
pub record StandsOn {File : Type 0} (tells : Bool) (s : RowDatabase) (files : List File) (landed : List (Landing File)) (place number page : ℕ) (why : Why) : Type 0 where
  pub untold : ¬ (tells ≡ true)
  pub schema : List Column
  pub written : List ℕ
  pub was : WasWritten s number page schema written
  pub read : Landing File
  pub stands : slice_get landed place ≡ Some read
  pub of_file : IsFileOf files number read.file
  pub of_page : read.page ≡ page
  pub because : IsWhy schema page (sha256 written) read.bytes why

-- it landed since, and no other read since is passed over
pub record StandsOnNew {File : Type 0} (tells : Bool) (s : RowDatabase) (files : List File) (before after : List (Landing File)) (number page : ℕ) (why : Why) : Type 0 where
  pub place : ℕ
  pub since : length before ≤ place
  pub on : StandsOn tells s files after place number page why
  pub others : AllSince (λ other read. Serves s files read ⊎ ((other ≡ place) × (is_digest_why why ≡ true))) before after

-- each read that landed since serves
abbrev pub AllServe : {File : Type 0} → RowDatabase → List File → PortSeen File → PortSeen File → Type 0
AllServe s files before after = AllSince (λ place read. Serves s files read) before.reading.landings after.reading.landings

-- what the failure of a statement over a database stands on, over what its port had before and has behind it; want of memory hides no fault
abbrev pub FailedBy : {File : Type 0} → Bool → RowDatabase → List File → PortSeen File → PortSeen File → Failure → Type 0
FailedBy tells s files before after Read = Rose before.reading.read_faults after.reading.read_faults × (after.write_faults ≡ before.write_faults) × AllServe s files before after
FailedBy tells s files before after Write = Rose before.write_faults after.write_faults × (after.reading ≡ before.reading)
FailedBy tells s files before after (Damaged number page why) = IsStill before after × StandsOnNew tells s files before.reading.landings after.reading.landings number page why
FailedBy tells s files before after Memory = IsStill before after × AllServe s files before after

-- what a reply stands on: where it is no failure no read or write failed while its statement ran, and no page is passed over
abbrev pub RepliedBy : {File : Type 0} → Bool → RowDatabase → List File → PortSeen File → PortSeen File → Reply → Type 0
RepliedBy tells s files before after (Done at what) = IsStill before after × AllServe s files before after
RepliedBy tells s files before after (Rows at rows) = IsStill before after × AllServe s files before after
RepliedBy tells s files before after (Refused at cause) = IsStill before after × AllServe s files before after
RepliedBy tells s files before after (Failed at cause) = FailedBy tells s files before after cause

-- a reply that says no failure
abbrev pub IsUnfailed : Reply → Type 0
IsUnfailed (Done at what) = Unit {0}
IsUnfailed (Rows at rows) = Unit {0}
IsUnfailed (Refused at cause) = Unit {0}
IsUnfailed (Failed at cause) = ⊥
