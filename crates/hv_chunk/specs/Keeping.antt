-- What a builder keeps. This project's own.
use Rattle.std.specs.Prelude.{◌≡◌, ℕ, ◌≤◌, List, Option, Some, [], ◌∷◌, ◌++◌, length, map}
use Rattle.std.specs.List.{AllByRecursion, flat_map}
use Rattle.sha2.specs.Sha256.{sha256}
use Rattle.hv_row.specs.Row.{row_bytes}
use Rattle.hv_page.specs.Layout.{written_version}
use Rattle.hv_page.specs.Chunk.{IsPacked, IsStored, AreHeapPages, heap_pages_from}
use Rattle.hv_heap.specs.Writer.{Packing}
use Rattle.hv_chunk.specs.Building.{Building}

-- the entries of the finished pages, and those of the page that is being made, where it has any
abbrev pub parts_with : List (List (List ℕ)) → List (List ℕ) → List (List (List ℕ))
parts_with parts [] = parts
parts_with parts (entry ∷ entries) = parts ++ (entry ∷ entries) ∷ []

-- a builder's writer, pages, digests and count are those of its rows
pub record IsKept (writer : Packing) (building : Building) (digests : List (List ℕ)) (row_count : ℕ) : Type 0 where
  pub schema_is : writer.schema ≡ building.schema
  pub added : writer.added ≡ length building.rows
  pub counted : row_count ≡ length building.rows
  pub few : row_count ≤ 1000000
  pub stored : AllByRecursion (IsStored building.schema) building.rows
  pub parts : List (List (List ℕ))
  pub begun : writer.entries ≡ [] → parts ≡ []
  pub packed : IsPacked (parts_with parts writer.entries)
  pub slots : flat_map (λ part. part) (parts_with parts writer.entries) ≡ map (row_bytes building.schema) building.rows
  pub number : length parts ≡ writer.number
  pub finished : building.pages ≡ heap_pages_from written_version 0 parts
  pub digested : digests ≡ map sha256 building.pages

-- all pages of a builder's rows stand in the open file, with their digests
pub record IsWhole (building : Building) (digests : List (List ℕ)) (open_file : Option (List (List ℕ))) : Type 0 where
  pub written : List (List ℕ)
  pub heap : AreHeapPages written_version building.schema written building.rows
  pub digested : digests ≡ map sha256 written
  pub open_is : open_file ≡ Some written
  pub few : length digests ≤ 1000001
