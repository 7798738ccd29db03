-- What a chunk means to those who read it. This project's own.
use Rattle.std.specs.Prelude.{◌≡◌, ℕ, Bool, true, List, take}
use Rattle.hv_row.specs.declared.value.Value.{Value}
use Rattle.hv_row.specs.declared.schema.Column.{Column}
use Rattle.hv_page.specs.Layout.{written_version}
use Rattle.hv_page.specs.Chunk.{IsChunk, AreHeapPages}

-- a chunk: the version of its pages, the rows, the schema they were stored under, the digest recorded for each page, how many heap pages and rows it has, and its file
pub record Viewed (File : Type 0) : Type 0 where
  pub version : ℕ
  pub rows : List (List Value)
  pub schema : List Column
  pub digests : List (List ℕ)
  pub heap_pages : ℕ
  pub row_count : ℕ
  pub file : File

-- what a reader may use on every device: the chunk is that of these rows under this schema, with what is recorded of the pages as they were written
pub record IsRecorded {File : Type 0} (schema : List Column) (rows : List (List Value)) (chunk : Viewed File) : Type 0 where
  pub schema_is : chunk.schema ≡ schema
  pub rows_are : chunk.rows ≡ rows
  pub version_is : chunk.version ≡ written_version
  pub written : List (List ℕ)
  pub is_chunk : IsChunk chunk.version chunk.schema written chunk.rows chunk.digests chunk.heap_pages chunk.row_count
  pub only : (others : List (List ℕ)) → AreHeapPages chunk.version chunk.schema others chunk.rows → others ≡ take chunk.heap_pages written

-- and where the file's type tells, its pages are these
pub record IsBuilt {File : Type 0} (tells : Bool) (pages : File → List (List ℕ)) (schema : List Column) (rows : List (List Value)) (chunk : Viewed File) : Type 0 where
  pub recorded : IsRecorded schema rows chunk
  pub file : tells ≡ true → pages chunk.file ≡ recorded.written
