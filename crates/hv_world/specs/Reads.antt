-- What a port that reads one page at a time has, and what it has read since. This project's own.
use Rattle.std.specs.Prelude.{◌≡◌, ℕ, ◌<◌, ◌≤◌, Bool, true, false, List, [], ◌∷◌, ◌++◌, length, Option, Some, map, slice_get}
use Rattle.hv_io.specs.Counts.{Rose}
use Rattle.hv_frames.specs.Frames.{Framed, Owned}
use Rattle.hv_dev.specs.Reading.{Reading, Landing, IsPageOf, unread}
use Rattle.hv_dev.specs.declared.sink.PageSink.{Ghosts}

-- what a clause sees of a port
pub record PortSeen (File : Type 0) : Type 0 where
  pub reading : Reading File
  pub write_faults : ℕ
  pub written : Option (List (List ℕ))

-- a port by its bound, as `port_seen P.PageSink access.old.port`
abbrev pub port_seen : {P File : Type 0} → Ghosts P File → P → PortSeen File
port_seen sink port = record { reading = sink.reading port; write_faults = sink.write_faults port; written = sink.written port }

-- a port that has done nothing yet, with room for one read
abbrev pub fresh_port : (File : Type 0) → PortSeen File
fresh_port File = record { reading = unread File 1; write_faults = 0; written = Some [] }

-- a port with room for a read, none under way and no page in its open file
pub record IsIdle {File : Type 0} (port : PortSeen File) : Type 0 where
  pub room : 0 < port.reading.room
  pub none : port.reading.in_flight ≡ []
  pub empty : port.written ≡ Some []

-- reads came to their ends: what landed stands behind what had landed before, and the faults never fall
pub record ReadsOn {File : Type 0} (before after : Reading File) : Type 0 where
  pub none : after.in_flight ≡ []
  pub room : after.room ≡ before.room
  pub faults : before.read_faults ≤ after.read_faults
  pub more : List (Landing File)
  pub landed : after.landings ≡ before.landings ++ more

-- a port after a statement: its reads came to their ends, and its open file has no page
pub record GoesOn {File : Type 0} (before after : PortSeen File) : Type 0 where
  pub reads : ReadsOn before.reading after.reading
  pub faults : before.write_faults ≤ after.write_faults
  pub empty : after.written ≡ Some []

-- there is one frame, the only one of its owner, and room to keep it
pub record HasFrame (owned : Owned) (frames : List Framed) (room : ℕ) : Type 0 where
  pub counted : owned.count ≡ 1
  pub its : map (λ f. f.owner) frames ≡ owned.name ∷ []
  pub numbered : map (λ f. f.number) frames ≡ 0 ∷ []
  pub kept : 1 ≤ room

-- the bytes of the first frame
abbrev pub first_bytes : List Framed → List ℕ
first_bytes [] = []
first_bytes (frame ∷ frames) = frame.bytes

-- a read of a page of a file came to its end: it landed with these bytes, which are the file's page where its type tells, or the faults rose
pub record HasRead {File : Type 0} (tells : Bool) (pages : File → List (List ℕ)) (file : File) (page : ℕ) (before after : Reading File) (bytes : List ℕ) (landed : Bool) : Type 0 where
  pub reads : ReadsOn before after
  pub brought : landed ≡ true → after.landings ≡ before.landings ++ (record { tag = 0; file = file; page = page; bytes = bytes }) ∷ []
  pub calm : landed ≡ true → after.read_faults ≡ before.read_faults
  pub true_page : tells ≡ true → landed ≡ true → IsPageOf (pages file) page bytes
  pub lost : landed ≡ false → (after.landings ≡ before.landings) × Rose before.read_faults after.read_faults

-- a read of a page of a file landed that had not before
pub record Brought {File : Type 0} (before after : List (Landing File)) (file : File) (page : ℕ) : Type 0 where
  pub place : ℕ
  pub since : length before ≤ place
  pub read : Landing File
  pub stands : slice_get after place ≡ Some read
  pub of_file : read.file ≡ file
  pub of_page : read.page ≡ page

-- it brought these bytes
pub record BroughtBytes {File : Type 0} (before after : List (Landing File)) (file : File) (page : ℕ) (bytes : List ℕ) : Type 0 where
  pub brought : Brought before after file page
  pub are : brought.read.bytes ≡ bytes

-- each read that landed since is of this kind
abbrev pub AllSince : {File : Type 0} → (ℕ → Landing File → Type 0) → List (Landing File) → List (Landing File) → Type 0
AllSince {File} Kind before after = (place : ℕ) (read : Landing File) → length before ≤ place → slice_get after place ≡ Some read → Kind place read

-- neither count of a port rose
pub record IsStill {File : Type 0} (before after : PortSeen File) : Type 0 where
  pub reads : after.reading.read_faults ≡ before.reading.read_faults
  pub writes : after.write_faults ≡ before.write_faults
