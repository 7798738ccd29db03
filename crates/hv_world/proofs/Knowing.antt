-- The premise of content: over fewer reads, over a shorter history, and of one chunk of a store.
use Rattle.std.proofs.Common.{◌≡◌, ℕ, ◌≤◌, Bool, List, ◌++◌, length, Some, inl, inr, sym, ap, subst, ◌∙◌, arith}
use Rattle.std.specs.List.{slice_get}
use Rattle.std.specs.Option.{option_map}
use Rattle.std.proofs.lemmas.Bool.{cases_lt}
use Rattle.std.proofs.lemmas.List.{take_all}
use Rattle.std.proofs.lemmas.Option.{slice_get-map}
use Rattle.std.proofs.Math.Seq.{take-length}
use Rattle.hv_row.specs.declared.value.Value.{Value}
use Rattle.hv_row.specs.declared.schema.Column.{Column}
use Rattle.hv_dev.specs.Reading.{Landing}
use Rattle.hv_page.specs.Layout.{written_version}
use Rattle.hv_view.specs.View.{Viewed, IsBuilt}
use Rattle.hv_view.specs.Known.{NoneForged, ChunkIsKnown}
use Rattle.hv_model.specs.declared.script.Script.{Script}
use Rattle.hv_model.specs.declared.catalogue.Chunk.{Chunk}
use Rattle.hv_model.specs.declared.catalogue.Table.{Table}
use Rattle.hv_model.specs.declared.catalogue.Entry.{Entry}
use Rattle.hv_model.specs.Database.{RowDatabase, empty_database}
use Rattle.hv_model.specs.Command.{database_after, replay_from}
use Rattle.hv_catalogue.specs.Holding.{Holding}
use Rattle.hv_world.specs.Stored.{database_of}
use Rattle.hv_world.specs.Known.{NoneForgedIn, DatabaseIsKnown, Known}
use Rattle.hv_world.proofs.HeldTables.{row_chunk, row_table, table_stands}
use Rattle.hv_world.proofs.Landed.{get_longer}

-- ---- fewer reads

none_forged_fewer : {File : Type 0} (version : ℕ) (schema : List Column) (rows : List (List Value)) (landed more after : List (Landing File)) → after ≡ landed ++ more → NoneForged version schema rows after → NoneForged version schema rows landed
none_forged_fewer {File} version schema rows landed more after longer none pages heap page bytes is place read stands =
    none pages heap page bytes is place read (ap (λ (l : List (Landing File)). slice_get l place) longer ∙ get_longer landed more place read stands)

none_forged_in_fewer : {File : Type 0} (s : RowDatabase) (landed more after : List (Landing File)) → after ≡ landed ++ more → NoneForgedIn s after → NoneForgedIn s landed
none_forged_in_fewer s landed more after longer none at table place chunk stands has =
    none_forged_fewer written_version table.schema chunk.content landed more after longer (none at table place chunk stands has)

pub chunk_known_fewer : {File : Type 0} (tells : Bool) (chunk : Viewed File) (landed more after : List (Landing File)) → after ≡ landed ++ more → ChunkIsKnown tells chunk after → ChunkIsKnown tells chunk landed
chunk_known_fewer tells chunk landed more after longer known =
    elim known [ inl told ↦ inl told | inr none ↦ inr (none_forged_fewer chunk.version chunk.schema chunk.rows landed more after longer none) ]

pub database_known_fewer : {File : Type 0} (tells : Bool) (s : RowDatabase) (landed more after : List (Landing File)) → after ≡ landed ++ more → DatabaseIsKnown tells s after → DatabaseIsKnown tells s landed
database_known_fewer tells s landed more after longer known =
    elim known [ inl told ↦ inl told | inr none ↦ inr (none_forged_in_fewer s landed more after longer none) ]

-- ---- a chunk of a catalogue

pub chunk_known : {File : Type 0} (tells : Bool) (pages : File → List (List ℕ)) (s : Holding (Viewed File)) (at place : ℕ) (t : Table (Viewed File)) (c : Chunk (Viewed File)) (landed : List (Landing File))
    → slice_get s.database.tables at ≡ Some t → slice_get t.chunks place ≡ Some c → IsBuilt tells pages t.schema c.content.rows c.content → DatabaseIsKnown tells (database_of s) landed → ChunkIsKnown tells c.content landed
chunk_known tells pages s at place t c landed stands has built known =
    let there : slice_get (row_table t).chunks place ≡ Some (row_chunk c) = slice_get-map row_chunk t.chunks place ∙ ap (option_map row_chunk) has in
    elim known [
      | inl told ↦ inl told
      | inr none ↦ inr (subst (λ (v : ℕ). NoneForged v c.content.schema c.content.rows landed) (sym built.recorded.version_is)
          (subst (λ (schema : List Column). NoneForged written_version schema c.content.rows landed) (sym built.recorded.schema_is) (none at (row_table t) place (row_chunk c) (table_stands s at t stands) there)))
    ]

-- ---- a shorter history

-- past its end a history's database is the last one
database_past : (s : Script) (history : List Entry) (n : ℕ) → length history ≤ n → database_after s history n ≡ database_after s history (length history)
database_past s history n past = ap (λ (entries : List Entry). replay_from (λ rows. rows) s empty_database entries) (take_all n history past ∙ sym (take-length history))

-- a database of a shorter history is one of a longer
pub record IsAt (s : Script) (history longer : List Entry) (n : ℕ) : Type 0 where
  pub at : ℕ
  pub same : database_after s longer at ≡ database_after s history n

pub is_at : (s : Script) (history longer : List Entry) (n : ℕ) → ((m : ℕ) → m ≤ length history → database_after s longer m ≡ database_after s history m) → IsAt s history longer n
is_at s history longer n kept =
    elim (cases_lt (length history) n) [
      | inl past ↦ record { at = length history; same = kept (length history) (omega arith) ∙ sym (database_past s history n (omega arith)) }
      | inr within ↦ record { at = n; same = kept n within }
    ]

-- the content of the shorter history is known over fewer reads
pub known_sooner : {File : Type 0} (tells : Bool) (s : Script) (history longer : List Entry) (landed more after : List (Landing File)) → after ≡ landed ++ more
    → ((m : ℕ) → m ≤ length history → database_after s longer m ≡ database_after s history m) → Known tells s longer after → Known tells s history landed
known_sooner tells s history longer landed more after is kept known =
    elim known [
      | inl told ↦ inl told
      | inr none ↦ inr (λ n. let there = is_at s history longer n kept in
          none_forged_in_fewer (database_after s history n) landed more after is (subst (λ (d : RowDatabase). NoneForgedIn d after) there.same (none there.at)))
    ]

-- so is that of its last database
pub known_now : {File : Type 0} (tells : Bool) (s : Script) (now : RowDatabase) (history longer : List Entry) (landed : List (Landing File)) → now ≡ database_after s history (length history)
    → ((m : ℕ) → m ≤ length history → database_after s longer m ≡ database_after s history m) → Known tells s longer landed → DatabaseIsKnown tells now landed
known_now tells s now history longer landed is kept known =
    elim known [
      | inl told ↦ inl told
      | inr none ↦ inr (subst (λ (d : RowDatabase). NoneForgedIn d landed) (kept (length history) (omega arith) ∙ sym is) (none (length history)))
    ]
