-- A query between two of its steps: where it stands, and what it has read. This project's own.
use Rattle.std.specs.Prelude.{◌≡◌, ◌⊎◌, ℕ, ◌+◌, ◌-◌, ◌^◌, ◌<◌, ◌≤◌, Bool, List, [], ◌∷◌, length, take, drop, map, Some, Result, Ok, OnOk, slice_get}
use Rattle.std.specs.List.{All, flat_map, sum_by}
use Rattle.hv_row.specs.declared.value.Value.{Value}
use Rattle.hv_dev.specs.Reading.{Landing}
use Rattle.hv_view.specs.View.{Viewed}
use Rattle.hv_view.specs.Known.{ChunkIsKnown}
use Rattle.hv_view.specs.declared.held.HeldChunk.{HeldChunk}
use Rattle.hv_view.specs.declared.held.HeldTable.{HeldTable}
use Rattle.hv_model.specs.declared.tree.Ast.TheVariants as ast
use Rattle.hv_model.specs.declared.tree.SelectAst.{SelectAst}
use Rattle.hv_model.specs.declared.script.Statement.{Statement}
use Rattle.hv_model.specs.declared.reply.Failure.{Failure}
use Rattle.hv_model.specs.declared.reply.Failure.TheVariants.{Memory}
use Rattle.hv_model.specs.declared.reply.Reply.{Reply}
use Rattle.hv_model.specs.declared.reply.Reply.TheVariants.{Failed}
use Rattle.hv_model.specs.Parsed.{parsed}
use Rattle.hv_model.specs.Query.{rows_of_number}
use Rattle.hv_model.specs.Selected.{select_query}
use Rattle.hv_model.specs.Settled.{Settles}
use Rattle.hv_world.specs.declared.select.SelectJob.{SelectJob}
use Rattle.hv_world.specs.Stored.{database_of}
use Rattle.hv_world.specs.Known.{DatabaseIsKnown}
use Rattle.hv_world.specs.Answer.{HoldsOn, TableStands}
use Rattle.hv_world.specs.RowsRead.{AddsPage, AddsPages}
use Rattle.hv_world.specs.Reads.{PortSeen, ReadsOn}
use Rattle.hv_world.specs.Damage.{ReadsChunk, IsUnfailed}
use Rattle.hv_world.specs.Look.{IsLook}

-- the rows of a table of a snapshot
abbrev pub rows_held : {File : Type 0} → HeldTable (Viewed File) → List (List Value)
rows_held t = flat_map (λ c. c.view.rows) t.chunks

-- how many pages chunks have
abbrev pub pages_of : {File : Type 0} → List (HeldChunk (Viewed File)) → ℕ
pages_of chunks = sum_by (λ c. c.view.heap_pages) chunks

-- how many pages are left of chunks behind the first pages of the first
abbrev pub pages_from : {File : Type 0} → List (HeldChunk (Viewed File)) → ℕ → ℕ
pages_from [] page = 0
pages_from (h ∷ hs) page = (h.view.heap_pages - page) + pages_of hs

-- how many pages are left of tables behind the first chunks of the first, and the first pages of its next chunk
abbrev pub pages_left : {File : Type 0} → List (HeldTable (Viewed File)) → ℕ → ℕ → ℕ
pages_left [] chunk page = 0
pages_left (t ∷ ts) chunk page = pages_from (drop chunk t.chunks) page + sum_by (λ t. pages_of t.chunks) ts

-- the rows of the first pages of the first of these chunks went behind the rows
abbrev pub AddsFirst : {File : Type 0} → List (HeldChunk (Viewed File)) → ℕ → List (List Value) → List (List Value) → Type 0
AddsFirst [] page before now = now ≡ before
AddsFirst (h ∷ hs) page before now = AddsPages h.view page before now

-- these are the rows of a table's first chunks, and of the first pages of its next chunk
abbrev pub AreRowsTo : {File : Type 0} → HeldTable (Viewed File) → ℕ → ℕ → List (List Value) → Type 0
AreRowsTo t chunk page now = AddsFirst (drop chunk t.chunks) page (flat_map (λ h. h.view.rows) (take chunk t.chunks)) now

-- chunks without a page left were passed over
pub record LeadsTo {File : Type 0} (t : HeldTable (Viewed File)) (chunk page later_chunk later_page : ℕ) : Type 0 where
  pub rows : (now : List (List Value)) → AreRowsTo t chunk page now → AreRowsTo t later_chunk later_page now
  pub fewer : pages_from (drop later_chunk t.chunks) later_page ≤ pages_from (drop chunk t.chunks) page

-- the tables of a query are there, one a place, and as many places at most are read
pub record IsPlaced {File : Type 0} (tells : Bool) (pages : File → List (List ℕ)) (job : SelectJob File) : Type 0 where
  pub paired : length job.view.tables ≡ length job.query.places
  pub stands : All (TableStands tells pages) job.view.tables
  pub within : length job.tables ≤ length job.query.places

-- the next page to read is there
pub record IsAtPage {File : Type 0} (job : SelectJob File) : Type 0 where
  pub table : HeldTable (Viewed File)
  pub of_table : slice_get job.view.tables (length job.tables) ≡ Some table
  pub chunk : HeldChunk (Viewed File)
  pub of_chunk : slice_get table.chunks job.chunk ≡ Some chunk
  pub of_page : job.page < chunk.view.heap_pages
  pub room : job.page + 1 < 2 ^ 32

-- what is known of a query between two of its steps: it looked at a sound catalogue, where it means this query of these tables; where the content is
-- known, the tables of its first places are read, and the next one as far as told
pub record IsSelecting {File : Type 0} (tells : Bool) (pages : File → List (List ℕ)) (x : Statement) (job : SelectJob File) (landings : List (Landing File)) : Type 0 where
  pub looked : IsLook tells pages job.look
  pub tree : SelectAst
  pub is : parsed x.text ≡ Ok (ast.Select tree)
  pub query_is : select_query tree (database_of job.look.held.value) ≡ Some job.query
  pub paired : length job.view.tables ≡ length job.query.places
  pub holds : HoldsOn tells pages job.look.held.value job.query.places job.view
  pub stands : All (TableStands tells pages) job.view.tables
  pub within : length job.tables ≤ length job.query.places
  pub enough : pages_left (drop (length job.tables) job.view.tables) job.chunk job.page ≤ job.left
  pub tables_are : DatabaseIsKnown tells (database_of job.look.held.value) landings
      → job.tables ≡ map (rows_of_number (database_of job.look.held.value)) (take (length job.tables) job.query.places)
  pub rows_are : DatabaseIsKnown tells (database_of job.look.held.value) landings
      → (t : HeldTable (Viewed File)) → slice_get job.view.tables (length job.tables) ≡ Some t → AreRowsTo t job.chunk job.page job.rows

-- what was known of a query is known of it still
pub record Keeps {File : Type 0} (tells : Bool) (pages : File → List (List ℕ)) (before after : SelectJob File) : Type 0 where
  pub placed : IsPlaced tells pages after
  pub query_is : after.query ≡ before.query
  pub look_is : after.look ≡ before.look
  pub left_is : after.left ≡ before.left
  pub selecting : (x : Statement) (landings : List (Landing File)) → IsSelecting tells pages x before landings → IsSelecting tells pages x after landings

-- what became of the read of the next page: its rows went behind those so far, where it is known; or why not
pub record ReadsNext {File : Type 0} (tells : Bool) (before after : SelectJob File) (port new : PortSeen File) (r : Result (Unit {0}) Failure) : Type 0 where
  pub at : IsAtPage before
  pub reads : ReadsOn port.reading new.reading
  pub faults : new.write_faults ≡ port.write_faults
  pub kept : new.written ≡ port.written
  pub reads_chunk : ReadsChunk tells at.chunk.chunk at.chunk.view port.reading new.reading r
  pub rows : OnOk r (ChunkIsKnown tells at.chunk.view new.reading.landings → AddsPage at.chunk.view before.page before.rows after.rows)
  pub is : OnOk r (after ≡ record before { rows = after.rows; page = before.page + 1; left = before.left - 1 })

-- a reply over the rows of all tables, at the length at which it looked; memory may be wanting
pub record Replies {File : Type 0} (job : SelectJob File) (r : Reply) : Type 0 where
  pub settles : (tells : Bool) (pages : File → List (List ℕ)) (x : Statement) (landings : List (Landing File)) (max : ℕ) → IsSelecting tells pages x job landings → length job.tables ≡ length job.query.places
      → Settles x max (DatabaseIsKnown tells (database_of job.look.held.value) landings) (database_of job.look.held.value) job.look.held.value.history r (database_of job.look.held.value) job.look.held.value.history
  pub calm : IsUnfailed r ⊎ (r ≡ Failed job.look.at Memory)
