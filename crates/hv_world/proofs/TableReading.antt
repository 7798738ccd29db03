-- A chunk of a catalogue whose pages are read: what its reads serve, and why one was not read.
use Rattle.std.proofs.Common.{◌≡◌, ℕ, zero, suc, ◌+◌, Bool, List, [], ◌∷◌, ◌++◌, get_or, map, take, Some, Err, inl, inr, refl, sym, ◌∙◌, ap, subst, arith, append_assoc, append-nil}
use Rattle.std.specs.List.{All, flat_map, slice_get}
use Rattle.std.specs.Option.{option_map}
use Rattle.std.proofs.lemmas.Option.{slice_get-map, same_Some}
use Rattle.hv_dev.specs.Reading.{Landing}
use Rattle.hv_page.specs.Chunk.{AreHeapPages}
use Rattle.hv_view.specs.View.{IsBuilt}
use Rattle.hv_model.specs.declared.reply.Why.{Why}
use Rattle.hv_model.specs.declared.reply.Failure.{Failure}
use Rattle.hv_model.specs.declared.reply.Failure.TheVariants.{Read, Write, Damaged, Memory}
use Rattle.hv_view.specs.View.{Viewed}
use Rattle.hv_view.specs.declared.held.HeldChunk.{HeldChunk}
use Rattle.hv_view.specs.declared.held.HeldTable.{HeldTable}
use Rattle.hv_model.specs.declared.catalogue.Chunk.{Chunk}
use Rattle.hv_model.specs.declared.catalogue.Table.{Table}
use Rattle.hv_catalogue.specs.Holding.{Holding, held_chunk}
use Rattle.hv_world.specs.Stored.{database_of, AreFiles}
use Rattle.hv_world.specs.Reads.{PortSeen, AllSince}
use Rattle.hv_world.specs.Damage.{IsWhy, ServesChunk, AllServeChunk, IsDamage, ReadsChunk, WasWritten, Serves, IsFileOf, StandsOnNew}
use Rattle.hv_world.specs.Answer.{AllWell, FailedOver, IsHeldTable}
use Rattle.hv_world.proofs.HeldTables.{HasItsFiles, all_stands, row_chunk, row_table, table_stands}
use Rattle.hv_world.proofs.Landed.{WrittenPage, written_page}

-- ---- a chunk of a catalogue

-- a chunk that stands in a catalogue, with what is known of it
pub record ChunkStands {File : Type 0} (tells : Bool) (pages : File → List (List ℕ)) (s : Holding (Viewed File)) (c : Chunk (Viewed File)) : Type 0 where
  pub at : ℕ
  pub table : Table (Viewed File)
  pub stands : slice_get s.database.tables at ≡ Some table
  pub place : ℕ
  pub has : slice_get table.chunks place ≡ Some c
  pub built : IsBuilt tells pages table.schema c.content.rows c.content

-- the chunk of a table that a query holds
abbrev pub chunk_at : {File : Type 0} → HeldChunk (Viewed File) → Chunk (Viewed File)
chunk_at h = record { number = h.chunk; content = h.view }

-- what is held at a place is the chunk there
held_is : {File : Type 0} (chunks : List (Chunk (Viewed File))) (place : ℕ) (h : HeldChunk (Viewed File)) → slice_get (map held_chunk chunks) place ≡ Some h → slice_get chunks place ≡ Some (chunk_at h)
held_is [] place h has = absurd cc
held_is {File} (c ∷ cs) zero h has = let same : held_chunk c ≡ h = same_Some (held_chunk c) h has in ap (λ (h : HeldChunk (Viewed File)). Some (chunk_at h)) same
held_is (c ∷ cs) (suc place) h has = held_is cs place h has

-- the chunks of a held table stand
pub stands_held : {File : Type 0} (tells : Bool) (pages : File → List (List ℕ)) (s : Holding (Viewed File)) (at : ℕ) (taken : HeldTable (Viewed File)) (place : ℕ) (h : HeldChunk (Viewed File)) → IsHeldTable tells pages s at taken
    → slice_get taken.chunks place ≡ Some h → ChunkStands tells pages s (chunk_at h)
stands_held {File} tells pages s at taken place h held has =
    let t = held.table in
    let there : slice_get t.chunks place ≡ Some (chunk_at h) = held_is t.chunks place h (ap (λ (x : HeldTable (Viewed File)). slice_get x.chunks place) (sym held.is) ∙ has) in
    let its : All (λ c. IsBuilt tells pages t.schema c.content.rows c.content) t.chunks =
    all_stands (λ t. All (λ c. IsBuilt tells pages t.schema c.content.rows c.content) t.chunks) s.database.tables at t held.sound held.stands in record {
      at = at;
      table = t;
      stands = held.stands;
      place = place;
      has = there;
      built = all_stands (λ c. IsBuilt tells pages t.schema c.content.rows c.content) t.chunks place (chunk_at h) its there;
    }

-- its file
file_of : {File : Type 0} (tells : Bool) (pages : File → List (List ℕ)) (s : Holding (Viewed File)) (c : Chunk (Viewed File)) (files : List File) → ChunkStands tells pages s c → AreFiles s files → IsFileOf files c.number c.content.file
file_of {File} tells pages s c files it are =
    all_stands (λ (c : Chunk (Viewed File)). IsFileOf files c.number c.content.file) it.table.chunks it.place c (all_stands (HasItsFiles files) s.database.tables it.at it.table are.each it.stands) it.has

-- a page of it, as it was written
was_written : {File : Type 0} (tells : Bool) (pages : File → List (List ℕ)) (s : Holding (Viewed File)) (c : Chunk (Viewed File)) (number page : ℕ) (bytes : List ℕ) → ChunkStands tells pages s c → number ≡ c.number
    → WrittenPage c.content page bytes → WasWritten (database_of s) number page c.content.schema bytes
was_written tells pages s c number page bytes it numbered w = record {
  at = it.at;
  table = row_table it.table;
  stands = table_stands s it.at it.table it.stands;
  place = it.place;
  chunk = row_chunk c;
  has = slice_get-map row_chunk it.table.chunks it.place ∙ ap (option_map row_chunk) it.has;
  numbered = sym numbered;
  schema_is = sym it.built.recorded.schema_is;
  pages = w.pages;
  heap = subst (λ (v : ℕ). AreHeapPages v c.content.schema w.pages c.content.rows) it.built.recorded.version_is w.heap;
  page_is = w.stands;
}

-- a read that serves it serves the catalogue
serves : {File : Type 0} (tells : Bool) (pages : File → List (List ℕ)) (s : Holding (Viewed File)) (c : Chunk (Viewed File)) (files : List File) (read : Landing File) → ChunkStands tells pages s c → AreFiles s files → ServesChunk c.content read
    → Serves (database_of s) files read
serves {File} tells pages s c files read it are served =
    let w = written_page it.table.schema c.content.rows c.content read.page it.built.recorded served.within in record {
      number = c.number;
      schema = c.content.schema;
      written = get_or it.built.recorded.written read.page [];
      was = was_written tells pages s c c.number read.page (get_or it.built.recorded.written read.page []) it refl w;
      of_file = subst (λ (file : File). IsFileOf files c.number file) (sym served.of_file) (file_of tells pages s c files it are);
      digest = served.digest ∙ w.digest;
    }

-- reads that serve it serve the catalogue
all_serve : {File : Type 0} (tells : Bool) (pages : File → List (List ℕ)) (s : Holding (Viewed File)) (c : Chunk (Viewed File)) (before after : List (Landing File)) → ChunkStands tells pages s c → AllSince (λ place read. ServesChunk c.content read) before after
    → (files : List File) → AreFiles s files → AllSince (λ place read. Serves (database_of s) files read) before after
all_serve tells pages s c before after it serve files are place read since stands = serves tells pages s c files read it are (serve place read since stands)

pub chunk_well : {File : Type 0} (tells : Bool) (pages : File → List (List ℕ)) (s : Holding (Viewed File)) (c : Chunk (Viewed File)) (before after : PortSeen File) → ChunkStands tells pages s c → AllServeChunk c.content before.reading after.reading
    → after.write_faults ≡ before.write_faults → AllWell s before after
chunk_well tells pages s c before after it reads writes = record {
  still = record { reads = reads.0; writes = writes };
  serve = all_serve tells pages s c before.reading.landings after.reading.landings it reads.1;
}

-- a page of it doesn't serve: the failure stands on a read that landed since
stands_on : {File : Type 0} (tells : Bool) (pages : File → List (List ℕ)) (s : Holding (Viewed File)) (c : Chunk (Viewed File)) (files : List File) (before after : List (Landing File)) (number page : ℕ) (why : Why)
    → ChunkStands tells pages s c → AreFiles s files → IsDamage tells c.number c.content before after number page why → StandsOnNew tells (database_of s) files before after number page why
stands_on {File} tells pages s c files before after number page why it are damage =
    let bytes = get_or it.built.recorded.written page [] in
    let w = written_page it.table.schema c.content.rows c.content page it.built.recorded damage.within in record {
      place = damage.brought.place;
      since = damage.brought.since;
      on = record {
        untold = damage.untold;
        schema = c.content.schema;
        written = bytes;
        was = was_written tells pages s c number page bytes it damage.numbered w;
        read = damage.brought.read;
        stands = damage.brought.stands;
        of_file = subst (λ (file : File). IsFileOf files number file) (sym damage.brought.of_file)
            (subst (λ (n : ℕ). IsFileOf files n c.content.file) (sym damage.numbered) (file_of tells pages s c files it are));
        of_page = damage.brought.of_page;
        because = subst (λ (wanted : List ℕ). IsWhy c.content.schema page wanted damage.brought.read.bytes why) w.digest damage.because;
      };
      others = λ place read since stands. (elim (damage.others place read since stands) [ inl served ↦ inl (serves tells pages s c files read it are served) | inr told ↦ inr told ]);
    }

-- it was not read: so the statement failed, and not for a write
pub chunk_failed : {File : Type 0} (tells : Bool) (pages : File → List (List ℕ)) (s : Holding (Viewed File)) (c : Chunk (Viewed File)) (before after : PortSeen File) (cause : Failure) → ChunkStands tells pages s c
    → ReadsChunk tells c.number c.content before.reading after.reading (Err cause) → after.write_faults ≡ before.write_faults → (¬ (cause ≡ Write)) × FailedOver tells s before after cause
chunk_failed tells pages s c before after Read it reads writes =
    ((λ is. cc), (λ files are. (reads.0, writes, all_serve tells pages s c before.reading.landings after.reading.landings it reads.1 files are)))
chunk_failed tells pages s c before after Write it reads writes = absurd reads
chunk_failed tells pages s c before after (Damaged number page why) it reads writes =
    ((λ is. cc), (λ files are. (record { reads = reads.0; writes = writes }, stands_on tells pages s c files before.reading.landings after.reading.landings number page why it are reads.1)))
chunk_failed tells pages s c before after Memory it reads writes =
    ((λ is. cc), (λ files are. (record { reads = reads.0; writes = writes }, all_serve tells pages s c before.reading.landings after.reading.landings it reads.1 files are)))

-- ---- lists

-- the first elements and the one behind them
pub flat_map_take : {X Y : Type 0} (f : X → List Y) (xs : List X) (count : ℕ) (x : X) → slice_get xs count ≡ Some x → flat_map f (take (count + 1) xs) ≡ flat_map f (take count xs) ++ f x
flat_map_take f [] count x has = absurd cc
flat_map_take f (y ∷ ys) zero x has = let same : y ≡ x = cc in append-nil (f y) ∙ ap f same
flat_map_take f (y ∷ ys) (suc count) x has =
    let next : suc count + 1 ≡ suc (count + 1) = omega arith in
    ap (λ n. flat_map f (take n (y ∷ ys))) next ∙ ap (λ l. f y ++ l) (flat_map_take f ys count x has) ∙ sym (append_assoc (f y) (flat_map f (take count ys)) (f x))
