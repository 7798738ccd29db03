-- How a port holds its reads and its open file. This project's own.
use Rattle.std.specs.Prelude.{◌≡◌, ℕ, List, [], ◌∷◌, ◌++◌, Option, Some, None, Bool, true, false, refl}
use Rattle.std.specs.Coded.{Coded, code_by, coded×, coded_ℕ, coded_list}
use Rattle.hv_io.specs.Counts.{Rose}
use Rattle.hv_dev.specs.Reading.{Flight, Landing, IsPageOf, landing_of}
use Rattle.hv_dev.specs.declared.port.Reaped.{Reaped}
use denote.RawPtr.{Ptr, coded_ptr}

-- a read under way is stored as its parts
abbrev pub flight_code : {File : Type 0} → Coded File → Coded (Flight File)
flight_code {File} file = code_by (ℕ × (File × (ℕ × (Ptr × ℕ)))) (coded× coded_ℕ (coded× file (coded× coded_ℕ (coded× coded_ptr coded_ℕ)))) (λ f. (f.tag, (f.file, (f.page, (f.owner, f.frame))))) (λ p. record { tag = p.0; file = p.1.0; page = p.1.1.0; owner = p.1.1.1.0; frame = p.1.1.1.1 }) (λ _. refl)

-- a read that landed is stored as its parts
abbrev pub landing_code : {File : Type 0} → Coded File → Coded (Landing File)
landing_code {File} file = code_by (ℕ × (File × (ℕ × List ℕ))) (coded× coded_ℕ (coded× file (coded× coded_ℕ (coded_list coded_ℕ)))) (λ l. (l.tag, (l.file, (l.page, l.bytes)))) (λ p. record { tag = p.0; file = p.1.0; page = p.1.1.0; bytes = p.1.1.1 }) (λ _. refl)

-- the pages of an open file, none of which means anything after a fault
abbrev pub open_pages : Bool → List (List ℕ) → Option (List (List ℕ))
open_pages true pages = None
open_pages false pages = Some pages

-- one of the reads under way was taken out
pub record Taken {File : Type 0} (before after : List (Flight File)) (flight : Flight File) : Type 0 where
  pub front : List (Flight File)
  pub back : List (Flight File)
  pub were : before ≡ front ++ flight ∷ back
  pub are : after ≡ front ++ back

-- a read ended: it came back with its frame, and landed and was noted, or was lost and counted; what landed is the file's page where its type tells
pub record Ends {File : Type 0} (tells : Bool) (pages : File → List (List ℕ)) (flight : Flight File) (landings landings' : List (Landing File)) (faults faults' : ℕ) (reaped : Reaped) : Type 0 where
  pub called : reaped.tag ≡ flight.tag
  pub owner : reaped.frame.owner ≡ flight.owner
  pub number : reaped.frame.number ≡ flight.frame
  pub brought : reaped.landed ≡ true → (landings' ≡ landings ++ landing_of flight reaped.frame.bytes ∷ []) × (faults' ≡ faults)
  pub true_page : tells ≡ true → reaped.landed ≡ true → IsPageOf (pages flight.file) flight.page reaped.frame.bytes
  pub lost : reaped.landed ≡ false → (landings' ≡ landings) × Rose faults faults'
