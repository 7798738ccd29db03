-- What a port has under way and what it has read. This project's own.
use Rattle.std.specs.Prelude.{◌≡◌, ℕ, ◌+◌, ◌-◌, ◌<◌, max, min, List, [], ◌∷◌, ◌++◌, length, Some, Bool, true, false, slice_get}
use Rattle.std.specs.List.{AllByRecursion}
use Rattle.hv_io.specs.Counts.{MAX_COUNT, Rose}
use Rattle.hv_frames.specs.Frames.{Framed}
use denote.RawPtr.{Ptr}

-- a read under way: what it is called, the file, the page's number in it, and whose frame it fills, by its number
pub record Flight (File : Type 0) : Type 0 where
  pub tag : ℕ
  pub file : File
  pub page : ℕ
  pub owner : Ptr
  pub frame : ℕ

-- a read that landed, with the bytes that it brought
pub record Landing (File : Type 0) : Type 0 where
  pub tag : ℕ
  pub file : File
  pub page : ℕ
  pub bytes : List ℕ

-- a port's reads: those under way in the order of their submits, how many may be, how many there were, the most at one time, the faults, and all that landed
pub record Reading (File : Type 0) : Type 0 where
  pub in_flight : List (Flight File)
  pub room : ℕ
  pub submits : ℕ
  pub most : ℕ
  pub read_faults : ℕ
  pub landings : List (Landing File)

-- the count after one more, which stays at its end
abbrev pub counted : ℕ → ℕ
counted n = min (n + 1) MAX_COUNT

-- a port that has read nothing
abbrev pub unread : (File : Type 0) → ℕ → Reading File
unread File room = record { in_flight = []; room = room; submits = 0; most = 0; read_faults = 0; landings = [] }

-- a read more under way
abbrev pub submitted : {File : Type 0} → Reading File → Flight File → Reading File
submitted r flight = record { in_flight = r.in_flight ++ flight ∷ []; room = r.room; submits = counted r.submits; most = max r.most (length r.in_flight + 1); read_faults = r.read_faults; landings = r.landings }

-- no read under way is called so
abbrev pub IsFree : {File : Type 0} → ℕ → List (Flight File) → Type 0
IsFree tag flights = AllByRecursion (λ flight. ¬ (flight.tag ≡ tag)) flights

-- what a read brought
abbrev pub landing_of : {File : Type 0} → Flight File → List ℕ → Landing File
landing_of flight bytes = record { tag = flight.tag; file = flight.file; page = flight.page; bytes = bytes }

-- the bytes are the page of that number, where the file has one
abbrev pub IsPageOf : List (List ℕ) → ℕ → List ℕ → Type 0
IsPageOf pages number bytes = number < length pages → slice_get pages number ≡ Some bytes

-- one of the reads under way came back with its frame, and landed or not; what landed is the file's page where its type tells
pub record Reaps {File : Type 0} (tells : Bool) (pages : File → List (List ℕ)) (before after : Reading File) (tag : ℕ) (frame : Framed) (landed : Bool) : Type 0 where
  pub front : List (Flight File)
  pub flight : Flight File
  pub back : List (Flight File)
  pub were : before.in_flight ≡ front ++ flight ∷ back
  pub are : after.in_flight ≡ front ++ back
  pub called : tag ≡ flight.tag
  pub owner : frame.owner ≡ flight.owner
  pub number : frame.number ≡ flight.frame
  pub room : after.room ≡ before.room
  pub submits : after.submits ≡ before.submits
  pub most : after.most ≡ before.most
  pub brought : landed ≡ true → (after.landings ≡ before.landings ++ landing_of flight frame.bytes ∷ []) × (after.read_faults ≡ before.read_faults)
  pub true_page : tells ≡ true → landed ≡ true → IsPageOf (pages flight.file) flight.page frame.bytes
  pub lost : landed ≡ false → (after.landings ≡ before.landings) × Rose before.read_faults after.read_faults

-- the counts of the ports that came back: their faults, their submits, the most that one had under way, all that landed; and how many ports are out
pub record Back (File : Type 0) : Type 0 where
  pub faults : ℕ
  pub submits : ℕ
  pub most : ℕ
  pub landings : List (Landing File)
  pub out : ℕ

-- a count with some more, which stays at its end
abbrev pub counted_more : ℕ → ℕ → ℕ
counted_more n more = min (n + more) MAX_COUNT

-- one port more is out
abbrev pub went : {File : Type 0} → Back File → Back File
went b = record { faults = b.faults; submits = b.submits; most = b.most; landings = b.landings; out = b.out + 1 }

-- a port came back that had read so and had so many faults of writing
abbrev pub came_back : {File : Type 0} → Back File → Reading File → ℕ → Back File
came_back b r write_faults = record { faults = counted_more b.faults (r.read_faults + write_faults); submits = counted_more b.submits r.submits; most = max b.most r.most; landings = b.landings ++ r.landings; out = b.out - 1 }

-- the counts of a device that no port came back to, with none out
abbrev pub none_back : {File : Type 0} → Back File
none_back = record { faults = 0; submits = 0; most = 0; landings = []; out = 0 }
