-- Reads that landed since, and what became of the reads of a chunk.
use Rattle.std.proofs.Common.{◌≡◌, ◌⊎◌, ℕ, zero, suc, ◌<◌, ◌≤◌, Bool, true, List, [], ◌∷◌, ◌++◌, length, get_or, take, Some, Result, Ok, Err, inl, inr, slice_get, refl, sym, ap, subst, ◌∙◌, append_assoc, arith, length-append}
use Rattle.std.specs.Result.{IsErrAnd}
use Rattle.std.proofs.lemmas.Bool.{cases_lt}
use Rattle.std.proofs.lemmas.List.{length-take-le, get_or-take, get_or-map}
use Rattle.std.proofs.lemmas.Option.{slice_get-get_or, slice_get_within, get_or_from_slice_get}
use Rattle.sha2.specs.Sha256.{sha256}
use Rattle.hv_row.specs.declared.value.Value.{Value}
use Rattle.hv_row.specs.declared.schema.Column.{Column}
use Rattle.hv_io.specs.Counts.{Rose}
use Rattle.hv_dev.specs.Reading.{Reading, Landing, IsPageOf}
use Rattle.hv_page.specs.Layout.{written_version}
use Rattle.hv_page.specs.Heap.{IsHeapPage}
use Rattle.hv_page.specs.Fault.{heap_fault}
use Rattle.hv_page.specs.Chunk.{AreHeapPages}
use Rattle.hv_view.specs.View.{Viewed, IsRecorded, IsBuilt}
use Rattle.hv_view.specs.Known.{ChunkIsKnown}
use Rattle.hv_model.specs.declared.reply.Why.TheVariants.{Digest, Form}
use Rattle.hv_model.specs.declared.reply.Failure.{Failure}
use Rattle.hv_model.specs.declared.reply.Failure.TheVariants.{Read, Write, Damaged, Memory}
use Rattle.hv_model.proofs.Places.{slice_get-more, slice_get-last}
use Rattle.hv_world.specs.Reads.{ReadsOn, Brought, BroughtBytes, AllSince}
use Rattle.hv_world.specs.Damage.{ServesChunk, AllServeChunk, IsDamage, ReadsChunk}
use Rattle.hv_world.specs.RowsRead.{IsAsWritten}
use Rattle.hv_world.proofs.ReadRows.{page_entries}

-- ---- reads one after another

pub reads_both : {File : Type 0} (before between after : Reading File) → ReadsOn before between → ReadsOn between after → ReadsOn before after
reads_both before between after a b = record {
  none = b.none;
  room = b.room ∙ a.room;
  faults = omega (arith, a.faults, b.faults);
  more = a.more ++ b.more;
  landed = b.landed ∙ ap (λ l. l ++ b.more) a.landed ∙ append_assoc before.landings a.more b.more;
}

-- a read that landed behind all others
pub brought_last : {File : Type 0} (before after : List (Landing File)) (read : Landing File) (file : File) → read.file ≡ file → after ≡ before ++ read ∷ [] → BroughtBytes before after file read.page read.bytes
brought_last before after read file of more = record {
  brought = record { place = length before; since = omega arith; read = read; stands = ap (λ l. slice_get l (length before)) more ∙ slice_get-last before read; of_file = of; of_page = refl };
  are = refl;
}

-- what landed since a later time landed since an earlier one
pub brought_earlier : {File : Type 0} (before between after more : List (Landing File)) (file : File) (page : ℕ) → between ≡ before ++ more → Brought between after file page → Brought before after file page
brought_earlier before between after more file page longer b = record {
  place = b.place;
  since = omega (arith, b.since, ap length longer, length-append before more);
  read = b.read;
  stands = b.stands;
  of_file = b.of_file;
  of_page = b.of_page;
}

-- a count that rose since a later time rose since an earlier one
pub rose_earlier : (before between after : ℕ) → before ≤ between → Rose between after → Rose before after
rose_earlier before between after first rose = record { falls_never = omega (arith, rose.falls_never); risen = omega (arith, rose.risen, rose.falls_never) }

-- ---- each read that landed since

-- the front of a longer list
pub get_front : {X : Type 0} (xs ys : List X) (k : ℕ) → k < length xs → slice_get (xs ++ ys) k ≡ slice_get xs k
get_front [] ys k below = absurd (omega arith)
get_front (x ∷ xs) ys zero below = refl
get_front (x ∷ xs) ys (suc k) below = get_front xs ys k (omega arith)

-- what stood at a place of a list stands there in a longer one
pub get_longer : {X : Type 0} (xs ys : List X) (k : ℕ) (x : X) → slice_get xs k ≡ Some x → slice_get (xs ++ ys) k ≡ Some x
get_longer xs ys k x stands = get_front xs ys k (slice_get_within xs k x stands) ∙ stands

-- none landed
pub none_since : {File : Type 0} (Kind : ℕ → Landing File → Type 0) (before after : List (Landing File)) → after ≡ before → AllSince Kind before after
none_since Kind before after same place read since stands =
    absurd (let within : place < length after = slice_get_within after place read stands in omega (arith, ap length same))

-- one landed
pub one_since : {File : Type 0} (Kind : ℕ → Landing File → Type 0) (before after : List (Landing File)) (new : Landing File) → after ≡ before ++ new ∷ [] → Kind (length before) new → AllSince Kind before after
one_since {File} Kind before after new more holds place read since stands =
    elim (slice_get-more before new place read (ap (λ (l : List (Landing File)). slice_get l place) (sym more) ∙ stands)) [
      | inl old ↦ absurd (let below : place < length before = old.below in omega arith)
      | inr last ↦ subst (λ (at : ℕ). Kind at read) (sym last.at) (subst (λ (r : Landing File). Kind (length before) r) last.same holds)
    ]

-- some landed, and then others
pub both_since : {File : Type 0} (Kind : ℕ → Landing File → Type 0) (before between after more : List (Landing File)) → after ≡ between ++ more → AllSince Kind before between → AllSince Kind between after → AllSince Kind before after
both_since {File} Kind before between after more longer first second place read since stands =
    elim (cases_lt place (length between)) [
      | inl below ↦ first place read since (sym (get_front between more place below) ∙ ap (λ (l : List (Landing File)). slice_get l place) (sym longer) ∙ stands)
      | inr above ↦ second place read above stands
    ]

-- reads of a chunk that went well, and then others of it
pub chunk_reads_then : {File : Type 0} (tells : Bool) (number : ℕ) (chunk : Viewed File) (before between after : Reading File) (r : Result (Unit {0}) Failure) → ReadsOn before between → ReadsOn between after
    → AllServeChunk chunk before between → ReadsChunk tells number chunk between after r → ReadsChunk tells number chunk before after r
unfolding brought_earlier
chunk_reads_then tells number chunk before between after (Ok done) first second well reads =
    (reads.0 ∙ well.0, both_since (λ place read. ServesChunk chunk read) before.landings between.landings after.landings second.more second.landed well.1 reads.1)
chunk_reads_then tells number chunk before between after (Err Read) first second well reads = (
  rose_earlier before.read_faults between.read_faults after.read_faults first.faults reads.0,
  both_since (λ place read. ServesChunk chunk read) before.landings between.landings after.landings second.more second.landed well.1 reads.1,
)
chunk_reads_then tells number chunk before between after (Err Write) first second well reads = reads
chunk_reads_then tells number chunk before between after (Err (Damaged told page why)) first second well reads = (
  reads.0 ∙ well.0,
  record {
    untold = reads.1.untold;
    numbered = reads.1.numbered;
    within = reads.1.within;
    brought = brought_earlier before.landings between.landings after.landings first.more chunk.file page first.landed reads.1.brought;
    because = reads.1.because;
    others = both_since _ before.landings between.landings after.landings second.more second.landed (λ place read since stands. inl (well.1 place read since stands)) reads.1.others;
  },
)
chunk_reads_then tells number chunk before between after (Err Memory) first second well reads =
    (reads.0 ∙ well.0, both_since (λ place read. ServesChunk chunk read) before.landings between.landings after.landings second.more second.landed well.1 reads.1)

-- a failure that was handed on
pub handed_on : {T E : Type 0} (r : Result T E) (e : E) (P : Result T E → Type 0) → IsErrAnd r (λ y. y ≡ e) → P (Err e) → P r
handed_on (Ok x) e P is p = absurd is
handed_on {T} (Err y) e P is p = subst (λ z. P (Err z)) (sym is) p

-- ---- a page of a chunk

-- a page of a chunk as it was written, with what is recorded of it
pub record WrittenPage {File : Type 0} (chunk : Viewed File) (page : ℕ) (bytes : List ℕ) : Type 0 where
  pub pages : List (List ℕ)
  pub heap : AreHeapPages chunk.version chunk.schema pages chunk.rows
  pub only : (others : List (List ℕ)) → AreHeapPages chunk.version chunk.schema others chunk.rows → others ≡ pages
  pub within : page < length pages
  pub stands : slice_get pages page ≡ Some bytes
  pub digest : get_or chunk.digests page [] ≡ sha256 bytes

pub written_page : {File : Type 0} (schema : List Column) (rows : List (List Value)) (chunk : Viewed File) (page : ℕ) (recorded : IsRecorded schema rows chunk) → page < chunk.heap_pages → WrittenPage chunk page (get_or recorded.written page [])
written_page schema rows chunk page recorded below =
    let written = recorded.written in
    let pages = take chunk.heap_pages written in
    let is = recorded.is_chunk in
    let fewer : chunk.heap_pages ≤ length written = is.within in
    let count : length pages ≡ chunk.heap_pages = length-take-le chunk.heap_pages written fewer in
    let within : page < length pages = omega arith in record {
      pages = pages;
      heap = is.heap;
      only = recorded.only;
      within = within;
      stands = slice_get-get_or pages page [] within ∙ ap (λ (b : List ℕ). Some b) (get_or-take chunk.heap_pages written page [] below);
      digest = ap (λ (l : List (List ℕ)). get_or l page []) is.digested ∙ get_or-map sha256 written page [] [] (omega arith);
    }

-- where the content is known, what landed with the digest that is recorded is that page
same_page : {File : Type 0} (tells : Bool) (pages : File → List (List ℕ)) (chunk : Viewed File) (page : ℕ) (bytes : List ℕ) (landed : List (Landing File)) (place : ℕ) (read : Landing File)
    (built : IsBuilt tells pages chunk.schema chunk.rows chunk) → page < chunk.heap_pages → (tells ≡ true → IsPageOf (pages chunk.file) page bytes) → slice_get landed place ≡ Some read → read.bytes ≡ bytes
    → sha256 bytes ≡ get_or chunk.digests page [] → ChunkIsKnown tells chunk landed → bytes ≡ get_or built.recorded.written page []
same_page tells pages chunk page bytes landed place read built below is stands are digest known =
    let recorded = built.recorded in
    let w = written_page chunk.schema chunk.rows chunk page recorded below in
    elim known [
      | inl told ↦ (let file : pages chunk.file ≡ recorded.written = built.file told in
          let fewer : chunk.heap_pages ≤ length recorded.written = recorded.is_chunk.within in
          let there : slice_get (pages chunk.file) page ≡ Some bytes = is told (omega (arith, ap length file)) in
          sym (get_or_from_slice_get recorded.written page bytes [] (ap (λ (l : List (List ℕ)). slice_get l page) (sym file) ∙ there)))
      | inr none ↦ sym are ∙ none w.pages w.heap page (get_or recorded.written page []) w.stands place read stands (ap sha256 are ∙ digest ∙ w.digest)
    ]

pub as_written : {File : Type 0} (tells : Bool) (pages : File → List (List ℕ)) (chunk : Viewed File) (page : ℕ) (bytes : List ℕ) (landed : List (Landing File)) (place : ℕ) (read : Landing File)
    (built : IsBuilt tells pages chunk.schema chunk.rows chunk) → page < chunk.heap_pages → (tells ≡ true → IsPageOf (pages chunk.file) page bytes) → slice_get landed place ≡ Some read → read.bytes ≡ bytes
    → sha256 bytes ≡ get_or chunk.digests page [] → ChunkIsKnown tells chunk landed → IsAsWritten chunk page bytes
as_written tells pages chunk page bytes landed place read built below is stands are digest known others heap =
    let w = written_page chunk.schema chunk.rows chunk page built.recorded below in
    ap (λ (l : List (List ℕ)). slice_get l page) (w.only others heap) ∙ w.stands
    ∙ ap (λ (b : List ℕ). Some b) (sym (same_page tells pages chunk page bytes landed place read built below is stands are digest known))

-- where the file's type tells, what is its page has the digest that is recorded
digest_is : {File : Type 0} (tells : Bool) (pages : File → List (List ℕ)) (chunk : Viewed File) (page : ℕ) (bytes : List ℕ) (built : IsBuilt tells pages chunk.schema chunk.rows chunk) → page < chunk.heap_pages → tells ≡ true
    → IsPageOf (pages chunk.file) page bytes → sha256 bytes ≡ get_or chunk.digests page []
digest_is tells pages chunk page bytes built below told is =
    let recorded = built.recorded in
    let w = written_page chunk.schema chunk.rows chunk page recorded below in
    let file : pages chunk.file ≡ recorded.written = built.file told in
    let fewer : chunk.heap_pages ≤ length recorded.written = recorded.is_chunk.within in
    let there : slice_get (pages chunk.file) page ≡ Some bytes = is (omega (arith, ap length file)) in
    let same : get_or recorded.written page [] ≡ bytes = get_or_from_slice_get recorded.written page bytes [] (ap (λ (l : List (List ℕ)). slice_get l page) (sym file) ∙ there) in
    ap sha256 (sym same) ∙ sym w.digest

-- a read of a page of a file, as it landed
abbrev pub the_read : {File : Type 0} → File → ℕ → List ℕ → Landing File
the_read file page bytes = record { tag = 0; file = file; page = page; bytes = bytes }

-- one read landed, and it serves
pub one_serves : {File : Type 0} (chunk : Viewed File) (before after : List (Landing File)) (file : File) (page : ℕ) (bytes : List ℕ) → file ≡ chunk.file → page < chunk.heap_pages
    → sha256 bytes ≡ get_or chunk.digests page [] → after ≡ before ++ the_read file page bytes ∷ [] → AllSince (λ place read. ServesChunk chunk read) before after
one_serves chunk before after file page bytes of below digest more =
    one_since (λ place read. ServesChunk chunk read) before after (the_read file page bytes) more (record { of_file = of; within = below; digest = digest })

-- the bytes that were seen have another digest than the one that is recorded
pub other_digest : {File : Type 0} (tells : Bool) (pages : File → List (List ℕ)) (number : ℕ) (chunk : Viewed File) (before after : List (Landing File)) (file : File) (page : ℕ) (bytes seen recorded found : List ℕ)
    → IsBuilt tells pages chunk.schema chunk.rows chunk → page < chunk.heap_pages → file ≡ chunk.file → (tells ≡ true → IsPageOf (pages file) page bytes) → after ≡ before ++ the_read file page bytes ∷ []
    → seen ≡ bytes → recorded ≡ get_or chunk.digests page [] → found ≡ sha256 seen → ¬ (found ≡ recorded) → IsDamage tells number chunk before after number page (Digest recorded found)
other_digest {File} tells pages number chunk before after file page bytes seen recorded found built below of is more same known made differ = record {
  untold = λ told. differ (made ∙ ap sha256 same ∙ digest_is tells pages chunk page bytes built below told (subst (λ (f : File). IsPageOf (pages f) page bytes) of (is told)) ∙ sym known);
  numbered = refl;
  within = below;
  brought = record {
    place = length before;
    since = omega arith;
    read = the_read file page bytes;
    stands = ap (λ (l : List (Landing File)). slice_get l (length before)) more ∙ slice_get-last before (the_read file page bytes);
    of_file = of;
    of_page = refl;
  };
  because = (known, made ∙ ap sha256 same, differ);
  others = one_since (λ place read. ServesChunk chunk read ⊎ ((place ≡ length before) × (true ≡ true))) before after (the_read file page bytes) more (inr (refl, refl));
}

-- what is seen is a page of rows under the schema that is seen, where it is that page as it was written
has_form : {File : Type 0} (schema : List Column) (rows : List (List Value)) (chunk : Viewed File) (page : ℕ) (bytes seen : List ℕ) (its : List Column) → IsRecorded schema rows chunk → page < chunk.heap_pages → IsAsWritten chunk page bytes
    → seen ≡ bytes → its ≡ chunk.schema → (entries : List (List ℕ)) × IsHeapPage written_version page its seen entries
has_form schema rows chunk page bytes seen its recorded below is same of =
    let w = written_page schema rows chunk page recorded below in
    let heap : AreHeapPages written_version chunk.schema w.pages chunk.rows = subst (λ (v : ℕ). AreHeapPages v chunk.schema w.pages chunk.rows) recorded.version_is w.heap in
    let has = page_entries chunk.schema w.pages chunk.rows heap page w.within in
    let both : Some has.bytes ≡ Some bytes = sym has.stands ∙ is w.pages w.heap in
    let equal : has.bytes ≡ seen = cc in (
      get_or heap.parts page [],
      subst (λ (s : List Column). IsHeapPage written_version page s seen (get_or heap.parts page [])) (sym of)
          (subst (λ (b : List ℕ). IsHeapPage written_version page chunk.schema b (get_or heap.parts page [])) equal has.whole),
    )

-- the bytes that were seen are no page of rows under the schema that was seen
pub no_form : {File : Type 0} (tells : Bool) (pages : File → List (List ℕ)) (number : ℕ) (chunk : Viewed File) (before after : List (Landing File)) (page : ℕ) (bytes seen : List ℕ) (schema : List Column) (byte : ℕ)
    → IsBuilt tells pages chunk.schema chunk.rows chunk → page < chunk.heap_pages → (ChunkIsKnown tells chunk after → IsAsWritten chunk page bytes) → BroughtBytes before after chunk.file page bytes
    → AllSince (λ place read. ServesChunk chunk read) before after → seen ≡ bytes → schema ≡ chunk.schema → sha256 bytes ≡ get_or chunk.digests page []
    → heap_fault written_version page schema seen ≡ Some byte → ((entries : List (List ℕ)) → IsHeapPage written_version page schema seen entries → ⊥) → IsDamage tells number chunk before after number page (Form byte)
no_form tells pages number chunk before after page bytes seen schema byte built below is brought served same of digest fault never = record {
  untold = λ told. (let has = has_form chunk.schema chunk.rows chunk page bytes seen schema built.recorded below (is (inl told)) same of in never has.0 has.1);
  numbered = refl;
  within = below;
  brought = brought.brought;
  because = (
    ap sha256 brought.are ∙ digest,
    ap (λ (s : List Column). heap_fault written_version page s brought.brought.read.bytes) (sym of) ∙ ap (heap_fault written_version page schema) (brought.are ∙ sym same) ∙ fault,
  );
  others = λ place read since stands. inl (served place read since stands);
}
