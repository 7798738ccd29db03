-- What a frame is, and which frames an owner has. This project's own.
use Rattle.std.specs.Prelude.{◌≡◌, ℕ, List, All, map, replicate, IsPermutation, refl}
use Rattle.std.specs.Coded.{Coded, code_by, coded×, coded_ℕ, coded_list}
use Rattle.std.specs.List.{range_with_len}
use denote.RawPtr.{Ptr, coded_ptr}

-- whose frame it is, its number among its owner's, counted from 0, and its bytes
pub record Framed : Type 0 where
  pub owner : Ptr
  pub number : ℕ
  pub bytes : List ℕ

-- a frame is stored as its parts
abbrev pub framed_code : Coded Framed
framed_code = code_by (Ptr × (ℕ × List ℕ)) (coded× coded_ptr (coded× coded_ℕ (coded_list coded_ℕ))) (λ f. (f.owner, (f.number, f.bytes))) (λ p. record { owner = p.0; number = p.1.0; bytes = p.1.1 }) (λ _. refl)

-- whose frames they are and how many there are
pub record Owned : Type 0 where
  pub name : Ptr
  pub count : ℕ

-- an owner is stored as its parts
abbrev pub owned_code : Coded Owned
owned_code = code_by (Ptr × ℕ) (coded× coded_ptr coded_ℕ) (λ o. (o.name, o.count)) (λ p. record { name = p.0; count = p.1 }) (λ _. refl)

-- the frame once it has other bytes
abbrev pub with_bytes : Framed → List ℕ → Framed
with_bytes frame bytes = record { owner = frame.owner; number = frame.number; bytes = bytes }

-- 4096 zero bytes
unfoldable pub zero_bytes : List ℕ
zero_bytes = replicate 4096 0

-- an owner's frame as it is made
abbrev pub fresh_frame : Ptr → ℕ → Framed
fresh_frame owner number = record { owner = owner; number = number; bytes = zero_bytes }

-- the first n frames of an owner as they are made, numbered from 0 in order
abbrev pub fresh_frames : Ptr → ℕ → List Framed
fresh_frames owner n = map (fresh_frame owner) (range_with_len 0 n)

-- these are all frames of the owner, each once, in any order and with any bytes
pub record AreAll (owned : Owned) (frames : List Framed) : Type 0 where
  pub are_its : All (λ f. f.owner ≡ owned.name) frames
  pub numbered : IsPermutation (range_with_len 0 owned.count) (map (λ f. f.number) frames)
