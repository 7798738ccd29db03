-- What is known of pages that were read. This project's own.
use Rattle.std.specs.Prelude.{◌≡◌, ℕ, ◌⊎◌, Bool, true, Some, List, slice_get}
use Rattle.sha2.specs.Sha256.{sha256}
use Rattle.hv_row.specs.declared.value.Value.{Value}
use Rattle.hv_row.specs.declared.schema.Column.{Column}
use Rattle.hv_page.specs.Chunk.{AreHeapPages}
use Rattle.hv_dev.specs.Reading.{Landing}
use Rattle.hv_view.specs.View.{Viewed}

-- no read that landed brought other bytes with the digest of a page of these rows as they are written under the schema
abbrev pub NoneForged : {File : Type 0} → ℕ → List Column → List (List Value) → List (Landing File) → Type 0
NoneForged {File} version schema rows landed = (pages : List (List ℕ)) → AreHeapPages version schema pages rows → (page : ℕ) (bytes : List ℕ) → slice_get pages page ≡ Some bytes
    → (place : ℕ) (read : Landing File) → slice_get landed place ≡ Some read → sha256 read.bytes ≡ sha256 bytes → read.bytes ≡ bytes

-- the content of a chunk's pages is known: the files tell what they hold, or none of the reads that landed brought other bytes with the digest of one of its pages
abbrev pub ChunkIsKnown : {File : Type 0} → Bool → Viewed File → List (Landing File) → Type 0
ChunkIsKnown tells chunk landed = (tells ≡ true) ⊎ NoneForged chunk.version chunk.schema chunk.rows landed
