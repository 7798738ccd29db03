-- What is known of the pages that a run has read: the premise of content. This project's own; a digest is SHA-256 (FIPS 180-4).
use Rattle.std.specs.Prelude.{◌≡◌, ◌⊎◌, ℕ, Bool, true, List, Some, slice_get}
use Rattle.hv_dev.specs.Reading.{Landing}
use Rattle.hv_page.specs.Layout.{written_version}
use Rattle.hv_view.specs.Known.{NoneForged}
use Rattle.hv_model.specs.declared.script.Script.{Script}
use Rattle.hv_model.specs.Database.{RowChunk, RowTable, RowDatabase}
use Rattle.hv_model.specs.declared.catalogue.Entry.{Entry}
use Rattle.hv_model.specs.Command.{database_after}

-- no read that landed brought other bytes with the digest of a page of a chunk of the database
abbrev pub NoneForgedIn : {File : Type 0} → RowDatabase → List (Landing File) → Type 0
NoneForgedIn s landed = (at : ℕ) (table : RowTable) (place : ℕ) (chunk : RowChunk) → slice_get s.tables at ≡ Some table → slice_get table.chunks place ≡ Some chunk
    → NoneForged written_version table.schema chunk.content landed

-- the content of a database's chunks is known: the files tell what they hold, or no read that landed brought other bytes with the digest of a page
abbrev pub DatabaseIsKnown : {File : Type 0} → Bool → RowDatabase → List (Landing File) → Type 0
DatabaseIsKnown tells s landed = (tells ≡ true) ⊎ NoneForgedIn s landed

-- the premise of content of a run: the same over the chunks of its whole history
abbrev pub Known : {File : Type 0} → Bool → Script → List Entry → List (Landing File) → Type 0
Known tells s history landed = (tells ≡ true) ⊎ ((n : ℕ) → NoneForgedIn (database_after s history n) landed)
