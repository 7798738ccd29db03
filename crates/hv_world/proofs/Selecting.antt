-- A query that reads its tables: what each move of its position keeps, and what its turns owe.
use Rattle.std.proofs.Common.{◌≡◌, ℕ, suc, ◌+◌, ◌-◌, ◌<◌, ◌≤◌, Bool, true, false, List, [], ◌∷◌, ◌++◌, length, get_or, take, drop, map, Some, Ok, Err, inl, inr, refl, sym, ap, subst, ◌∙◌, arith, le_refl, add-one, length-append}
use Rattle.std.specs.Prelude.{slice_get}
use Rattle.std.specs.List.{All, flat_map, sum_by}
use Rattle.std.proofs.Math.Seq.{drop-cons}
use Rattle.std.proofs.lemmas.List.{take_all, drop_all, map_more}
use Rattle.std.proofs.lemmas.List.Folds.{flat_map-map}
use Rattle.std.proofs.lemmas.List.Sums.{sum_by-cons}
use Rattle.std.proofs.lemmas.Option.{slice_get_within, slice_get-get_or, get_or_from_slice_get, slice_get_read, same_Some}
use Rattle.hv_row.specs.declared.value.Value.{Value}
use Rattle.hv_dev.specs.Reading.{Landing}
use Rattle.hv_view.specs.View.{Viewed, IsRecorded}
use Rattle.hv_view.specs.declared.held.HeldChunk.{HeldChunk}
use Rattle.hv_view.specs.declared.held.HeldTable.{HeldTable}
use Rattle.hv_view.specs.declared.held.Snapshot.{Snapshot}
use Rattle.hv_catalogue.specs.Holding.{Holding, held_chunk}
use Rattle.hv_model.specs.declared.script.Statement.{Statement}
use Rattle.hv_model.specs.declared.tree.Ast.TheVariants as ast
use Rattle.hv_model.specs.declared.tree.SelectAst.{SelectAst}
use Rattle.hv_model.specs.declared.query.BoundQuery.{BoundQuery}
use Rattle.hv_model.specs.Parsed.{parsed}
use Rattle.hv_model.specs.Selected.{select_query}
use Rattle.hv_model.specs.declared.reply.Reply.{Reply}
use Rattle.hv_model.specs.declared.reply.Reply.TheVariants.{Rows, Refused, Failed}
use Rattle.hv_model.specs.declared.reply.Refusal.TheVariants.{EmptyAggregate}
use Rattle.hv_model.specs.declared.reply.Failure.{Failure}
use Rattle.hv_model.specs.declared.reply.Failure.TheVariants.{Memory}
use Rattle.hv_model.specs.declared.query.Cell.{Cell}
use Rattle.hv_model.specs.Answer.{AnswersFor, is_empty_aggregate}
use Rattle.hv_model.specs.Query.{rows_of_number, loops_over, out}
use Rattle.hv_world.specs.declared.select.SelectJob.{SelectJob}
use Rattle.hv_world.specs.declared.stage.Look.{Look}
use Rattle.hv_world.specs.declared.stage.Stage.TheVariants as stage
use Rattle.hv_world.specs.declared.stage.Step.TheVariants as step
use Rattle.hv_world.specs.Stored.{database_of, IsSound}
use Rattle.hv_world.specs.Known.{DatabaseIsKnown}
use Rattle.hv_world.specs.Reads.{PortSeen, IsIdle, ReadsOn, GoesOn}
use Rattle.hv_world.specs.Damage.{RepliedBy}
use Rattle.hv_world.specs.RowsRead.{AddsPage, AddsPages}
use Rattle.hv_world.specs.Answer.{AllWell, HoldsOn, IsHeldTable, TableStands}
use Rattle.hv_world.specs.Selecting.{rows_held, pages_of, pages_from, pages_left, AddsFirst, AreRowsTo, LeadsTo, IsPlaced, IsAtPage, IsSelecting, Keeps, ReadsNext, Replies}
use Rattle.hv_world.specs.Stage.{IsReading}
use Rattle.hv_world.specs.Step.{IsStep}
use Rattle.hv_world.proofs.HeldTables.{rows_listed}
use Rattle.hv_world.proofs.ReadRows.{adds_pages_none, adds_pages_more, adds_pages_all}
use Rattle.hv_world.proofs.Knowing.{chunk_known, database_known_fewer}
use Rattle.hv_world.proofs.Steps.{goes_nowhere, idle_still, well_unread, memory_over, replied_well}
use Rattle.hv_world.proofs.TableReading.{chunk_at, stands_held, chunk_well, chunk_failed, flat_map_take}
use Rattle.hv_world.proofs.Answering.{settles_rows, settles_over_none, may_read}

-- ---- lists

-- the element at a number stands first behind those before it
drop_at : {X : Type 0} (xs : List X) (k : ℕ) (x : X) → slice_get xs k ≡ Some x → drop k xs ≡ x ∷ drop (k + 1) xs
drop_at xs k x has =
    drop-cons xs k x (slice_get_within xs k x has) ∙ ap (λ y. y ∷ drop (suc k) xs) (get_or_from_slice_get xs k x x has) ∙ ap (λ n. x ∷ drop n xs) (sym (add-one k))

-- what is read at a number stands there
pub read_at : {X : Type 0} (xs ys : List X) (n k : ℕ) (x : X) → ys ≡ xs → k ≡ n → n < length xs → x ≡ get_or ys k x → slice_get xs n ≡ Some x
read_at xs ys n k x same at below is = slice_get_read xs (length xs) n x refl below (is ∙ (λ j. get_or (same j) (at j) x))

-- ---- the pages of a table

-- no page yet
adds_first : {File : Type 0} (hs : List (HeldChunk (Viewed File))) (before now : List (List Value)) → now ≡ before → AddsFirst hs 0 before now
adds_first [] before now is = is
adds_first (h ∷ hs) before now is = subst (λ (rows : List (List Value)). AddsPages h.view 0 before rows) (sym is) (adds_pages_none h.view before)

pages_first : {File : Type 0} (hs : List (HeldChunk (Viewed File))) → pages_from hs 0 ≡ pages_of hs
pages_first [] = refl
pages_first {File} (h ∷ hs) = let sum = sum_by-cons (λ (h : HeldChunk (Viewed File)). h.view.heap_pages) h hs in omega (arith, sum)

left_first : {File : Type 0} (ts : List (HeldTable (Viewed File))) → pages_left ts 0 0 ≡ sum_by (λ t. pages_of t.chunks) ts
left_first [] = refl
left_first {File} (t ∷ ts) =
    ap (λ n. n + sum_by (λ t. pages_of t.chunks) ts) (pages_first t.chunks) ∙ sym (sum_by-cons (λ (t : HeldTable (Viewed File)). pages_of t.chunks) t ts)

pub leads_first : {File : Type 0} (t : HeldTable (Viewed File)) (chunk page : ℕ) → LeadsTo t chunk page chunk page
leads_first t chunk page = record { rows = λ now rows. rows; fewer = le_refl (pages_from (drop chunk t.chunks) page) }

-- a chunk is passed over
pub leads_on : {File : Type 0} (t : HeldTable (Viewed File)) (chunk page at behind : ℕ) (h : HeldChunk (Viewed File)) → slice_get t.chunks at ≡ Some h → IsRecorded h.view.schema h.view.rows h.view → h.view.heap_pages ≤ behind
    → LeadsTo t chunk page at behind → LeadsTo t chunk page (at + 1) 0
leads_on {File} t chunk page at behind h has recorded end leads =
    let rows_of : HeldChunk (Viewed File) → List (List Value) = λ h. h.view.rows in
    let front = flat_map rows_of (take at t.chunks) in
    let cons = drop_at t.chunks at h has in record {
      rows = λ now first.
          let its : AddsPages h.view behind front now = subst (λ (hs : List (HeldChunk (Viewed File))). AddsFirst hs behind front now) cons (leads.rows now first) in
          adds_first (drop (at + 1) t.chunks) (flat_map rows_of (take (at + 1) t.chunks)) now (adds_pages_all h.view behind front now recorded end its ∙ sym (flat_map_take rows_of t.chunks at h has));
      fewer =
          let all : (h.view.heap_pages - behind) + pages_of (drop (at + 1) t.chunks) ≤ pages_from (drop chunk t.chunks) page =
          subst (λ (hs : List (HeldChunk (Viewed File))). pages_from hs behind ≤ pages_from (drop chunk t.chunks) page) cons leads.fewer in
          let next = pages_first (drop (at + 1) t.chunks) in
          omega (arith, all, next);
    }

-- no chunk is left: these are all rows
pub leads_past : {File : Type 0} (t : HeldTable (Viewed File)) (chunk page at behind : ℕ) → length t.chunks ≤ at → LeadsTo t chunk page at behind → (now : List (List Value)) → AreRowsTo t chunk page now → now ≡ rows_held t
leads_past {File} t chunk page at behind past leads now first =
    let rows_of : HeldChunk (Viewed File) → List (List Value) = λ h. h.view.rows in
    let its : now ≡ flat_map rows_of (take at t.chunks) =
    subst (λ (hs : List (HeldChunk (Viewed File))). AddsFirst hs behind (flat_map rows_of (take at t.chunks)) now) (drop_all at t.chunks past) (leads.rows now first) in
    its ∙ ap (flat_map rows_of) (take_all at t.chunks past)

-- ---- moves of the position

-- the position goes on in its table
abbrev pub moved : {File : Type 0} → SelectJob File → ℕ → ℕ → SelectJob File
moved job chunk page = record job { chunk = chunk; page = page }

-- the pages that are left of all tables are those of the table under way and of those behind it
left_here : {File : Type 0} (ts : List (HeldTable (Viewed File))) (k : ℕ) (t : HeldTable (Viewed File)) (chunk page : ℕ) → slice_get ts k ≡ Some t
    → pages_left (drop k ts) chunk page ≡ pages_from (drop chunk t.chunks) page + sum_by (λ t. pages_of t.chunks) (drop (k + 1) ts)
left_here {File} ts k t chunk page has = ap (λ (ts : List (HeldTable (Viewed File))). pages_left ts chunk page) (drop_at ts k t has)

module _ {File : Type 0} (tells : Bool) (pages : File → List (List ℕ)) (job : SelectJob File) where
  selecting_moved : (x : Statement) (landings : List (Landing File)) (t : HeldTable (Viewed File)) (chunk page : ℕ) → slice_get job.view.tables (length job.tables) ≡ Some t → LeadsTo t job.chunk job.page chunk page
      → IsSelecting tells pages x job landings → IsSelecting tells pages x (moved job chunk page) landings
  selecting_moved x landings t chunk page has leads is = record {
    looked = is.looked;
    tree = is.tree;
    is = is.is;
    query_is = is.query_is;
    paired = is.paired;
    holds = is.holds;
    stands = is.stands;
    within = is.within;
    enough = omega (arith, is.enough, leads.fewer, left_here job.view.tables (length job.tables) t job.chunk job.page has, left_here job.view.tables (length job.tables) t chunk page has);
    tables_are = is.tables_are;
    rows_are = λ known other others.
        let same : t ≡ other = same_Some t other (sym has ∙ others) in
        subst (λ (t : HeldTable (Viewed File)). AreRowsTo t chunk page job.rows) same (leads.rows job.rows (is.rows_are known t has));
  }

  pub keeps_moved : (t : HeldTable (Viewed File)) (chunk page : ℕ) → slice_get job.view.tables (length job.tables) ≡ Some t → LeadsTo t job.chunk job.page chunk page → IsPlaced tells pages job → Keeps tells pages job (moved job chunk page)
  keeps_moved t chunk page has leads placed = record {
    placed = record { paired = placed.paired; stands = placed.stands; within = placed.within };
    query_is = refl;
    look_is = refl;
    left_is = refl;
    selecting = λ x landings is. selecting_moved x landings t chunk page has leads is;
  }

-- the table of the place under way has these rows, and the next place is under way
abbrev pub ended : {File : Type 0} → SelectJob File → List (List Value) → SelectJob File
ended job rows = record job { tables = job.tables ++ rows ∷ []; rows = []; chunk = 0; page = 0 }

module _ {File : Type 0} (tells : Bool) (pages : File → List (List ℕ)) (job : SelectJob File) (t : HeldTable (Viewed File)) (at : ℕ) (rows : List (List Value)) where
  selecting_ended : (x : Statement) (landings : List (Landing File)) → slice_get job.query.places (length job.tables) ≡ Some at → slice_get job.view.tables (length job.tables) ≡ Some t
      → (IsSelecting tells pages x job landings → DatabaseIsKnown tells (database_of job.look.held.value) landings → rows ≡ rows_of_number (database_of job.look.held.value) at)
      → IsSelecting tells pages x job landings → IsSelecting tells pages x (ended job rows) landings
  selecting_ended x landings stands has its is =
      let rows_of = rows_of_number (database_of job.look.held.value) in
      let k = length job.tables in
      let places = job.query.places in
      let count : length (job.tables ++ rows ∷ []) ≡ k + 1 = length-append job.tables (rows ∷ []) in
      let below : k < length places = slice_get_within places k at stands in
      let fewer : pages_left (drop (k + 1) job.view.tables) 0 0 ≤ job.left =
      omega (arith, is.enough, left_here job.view.tables k t job.chunk job.page has, left_first (drop (k + 1) job.view.tables)) in record {
        looked = is.looked;
        tree = is.tree;
        is = is.is;
        query_is = is.query_is;
        paired = is.paired;
        holds = is.holds;
        stands = is.stands;
        within = omega (arith, count, below);
        enough = subst (λ n. pages_left (drop n job.view.tables) 0 0 ≤ job.left) (sym count) fewer;
        tables_are = λ known. ap (λ l. l ++ rows ∷ []) (is.tables_are known) ∙ ap (λ r. map rows_of (take k places) ++ r ∷ []) (its is known ∙ ap rows_of (sym (get_or_from_slice_get places k at at stands)))
            ∙ sym (map_more rows_of places k at below) ∙ ap (λ n. map rows_of (take n places)) (sym count);
        rows_are = λ known t has. adds_first t.chunks [] [] refl;
      }

  keeps_ended : slice_get job.query.places (length job.tables) ≡ Some at → slice_get job.view.tables (length job.tables) ≡ Some t
      → ((x : Statement) (landings : List (Landing File)) → IsSelecting tells pages x job landings → DatabaseIsKnown tells (database_of job.look.held.value) landings → rows ≡ rows_of_number (database_of job.look.held.value) at)
      → IsPlaced tells pages job → Keeps tells pages job (ended job rows)
  keeps_ended stands has its placed =
      let count : length (job.tables ++ rows ∷ []) ≡ length job.tables + 1 = length-append job.tables (rows ∷ []) in
      let below : length job.tables < length job.query.places = slice_get_within job.query.places (length job.tables) at stands in record {
        placed = record { paired = placed.paired; stands = placed.stands; within = omega (arith, count, below) };
        query_is = refl;
        look_is = refl;
        left_is = refl;
        selecting = λ x landings is. selecting_ended x landings stands has (its x landings) is;
      }

  -- its rows are all read
  pub keeps_read : slice_get job.query.places (length job.tables) ≡ Some at → slice_get job.view.tables (length job.tables) ≡ Some t → rows ≡ job.rows
      → ((now : List (List Value)) → AreRowsTo t job.chunk job.page now → now ≡ rows_held t) → IsPlaced tells pages job → Keeps tells pages job (ended job rows)
  keeps_read stands has taken all placed =
      let rows_of : HeldChunk (Viewed File) → List (List Value) = λ h. h.view.rows in
      keeps_ended stands has (λ x landings is known.
      let held = is.holds (length job.tables) at t stands has in
      let whole : job.rows ≡ flat_map rows_of t.chunks = all job.rows (is.rows_are known t has) in
      taken ∙ rows_listed job.look.held.value at held.table job.rows held.stands
      (whole ∙ ap (λ (t : HeldTable (Viewed File)). flat_map rows_of t.chunks) held.is ∙ flat_map-map rows_of held_chunk held.table.chunks)) placed

  -- they are copied
  pub keeps_copied : slice_get job.query.places (length job.tables) ≡ Some at → slice_get job.view.tables (length job.tables) ≡ Some t
      → ((rows_of : ℕ → List (List Value)) → job.tables ≡ map rows_of (take (length job.tables) job.query.places) → rows ≡ rows_of at) → IsPlaced tells pages job → Keeps tells pages job (ended job rows)
  keeps_copied stands has copied placed = keeps_ended stands has (λ x landings is known. copied (rows_of_number (database_of job.look.held.value)) (is.tables_are known)) placed

pub keeps_both : {File : Type 0} (tells : Bool) (pages : File → List (List ℕ)) (a b c : SelectJob File) → Keeps tells pages a b → Keeps tells pages b c → Keeps tells pages a c
keeps_both tells pages a b c first second = record {
  placed = second.placed;
  query_is = second.query_is ∙ first.query_is;
  look_is = second.look_is ∙ first.look_is;
  left_is = second.left_is ∙ first.left_is;
  selecting = λ x landings is. second.selecting x landings (first.selecting x landings is);
}

-- ---- a page is read

-- what is read at the position of a page are its table and its chunk
pub page_here : {File : Type 0} (job : SelectJob File) (at : IsAtPage job) (tables : List (HeldTable (Viewed File))) (k : ℕ) (t : HeldTable (Viewed File)) (chunks : List (HeldChunk (Viewed File))) (h : HeldChunk (Viewed File))
    → tables ≡ job.view.tables → k ≡ length job.tables → t ≡ get_or tables k t → chunks ≡ t.chunks → h ≡ get_or chunks job.chunk h → h ≡ at.chunk
page_here {File} job at tables k t chunks h tables_are k_is t_is chunks_are h_is =
    let here : slice_get tables k ≡ Some at.table = (λ j. slice_get (tables_are j) (k_is j)) ∙ at.of_table in
    let t_same : t ≡ at.table = same_Some t at.table (sym (slice_get_read tables (length tables) k t refl (slice_get_within tables k at.table here) t_is) ∙ here) in
    let there : slice_get chunks job.chunk ≡ Some at.chunk = ap (λ (hs : List (HeldChunk (Viewed File))). slice_get hs job.chunk) (chunks_are ∙ ap (λ (t : HeldTable (Viewed File)). t.chunks) t_same) ∙ at.of_chunk in
    same_Some h at.chunk (sym (slice_get_read chunks (length chunks) job.chunk h refl (slice_get_within chunks job.chunk at.chunk there) h_is) ∙ there)

-- where a page is there, one is left
pub some_left : {File : Type 0} (tells : Bool) (pages : File → List (List ℕ)) (x : Statement) (job : SelectJob File) (landings : List (Landing File)) → IsSelecting tells pages x job landings → IsAtPage job → 0 < job.left
some_left {File} tells pages x job landings is at =
    let here = left_here job.view.tables (length job.tables) at.table job.chunk job.page at.of_table in
    let first : pages_from (drop job.chunk at.table.chunks) job.page ≡ (at.chunk.view.heap_pages - job.page) + pages_of (drop (job.chunk + 1) at.table.chunks) =
    ap (λ (hs : List (HeldChunk (Viewed File))). pages_from hs job.page) (drop_at at.table.chunks job.chunk at.chunk at.of_chunk) in
    omega (arith, is.enough, here, first, at.of_page)

-- the table under way is one of the catalogue at which the query looked
held_here : {File : Type 0} (tells : Bool) (pages : File → List (List ℕ)) (x : Statement) (job : SelectJob File) (landings : List (Landing File)) → IsSelecting tells pages x job landings → (at : IsAtPage job)
    → (number : ℕ) × IsHeldTable tells pages job.look.held.value number at.table
held_here tells pages x job landings is at =
    let k = length job.tables in
    let below : k < length job.view.tables = slice_get_within job.view.tables k at.table at.of_table in
    (get_or job.query.places k 0, is.holds k (get_or job.query.places k 0) at.table (slice_get-get_or job.query.places k 0 (omega (arith, below, is.paired))) at.of_table)

-- one page more was read
abbrev pub read_on : {File : Type 0} → SelectJob File → List (List Value) → SelectJob File
read_on job rows = record job { rows = rows; page = job.page + 1; left = job.left - 1 }

selecting_read : {File : Type 0} (tells : Bool) (pages : File → List (List ℕ)) (x : Statement) (job next : SelectJob File) (port new : PortSeen File) → IsSelecting tells pages x job port.reading.landings
    → ReadsNext tells job next port new (Ok tt) → IsSelecting tells pages x (read_on job next.rows) new.reading.landings
selecting_read {File} tells pages x job next port new is read =
    let at = read.at in
    let t = at.table in
    let s = job.look.held.value in
    let rows_of : HeldChunk (Viewed File) → List (List Value) = λ h. h.view.rows in
    let front = flat_map rows_of (take job.chunk t.chunks) in
    let cons = drop_at t.chunks job.chunk at.chunk at.of_chunk in
    let sooner : DatabaseIsKnown tells (database_of s) new.reading.landings → DatabaseIsKnown tells (database_of s) port.reading.landings =
    (λ known. database_known_fewer tells (database_of s) port.reading.landings read.reads.more new.reading.landings read.reads.landed known) in
    let held = held_here tells pages x job port.reading.landings is at in
    let it = stands_held tells pages s held.0 t job.chunk at.chunk held.1 at.of_chunk in
    let here = left_here job.view.tables (length job.tables) t job.chunk job.page at.of_table in
    let later = left_here job.view.tables (length job.tables) t job.chunk (job.page + 1) at.of_table in
    let first : pages_from (drop job.chunk t.chunks) job.page ≡ (at.chunk.view.heap_pages - job.page) + pages_of (drop (job.chunk + 1) t.chunks) =
    ap (λ (hs : List (HeldChunk (Viewed File))). pages_from hs job.page) cons in
    let second : pages_from (drop job.chunk t.chunks) (job.page + 1) ≡ (at.chunk.view.heap_pages - (job.page + 1)) + pages_of (drop (job.chunk + 1) t.chunks) =
    ap (λ (hs : List (HeldChunk (Viewed File))). pages_from hs (job.page + 1)) cons in record {
      looked = is.looked;
      tree = is.tree;
      is = is.is;
      query_is = is.query_is;
      paired = is.paired;
      holds = is.holds;
      stands = is.stands;
      within = is.within;
      enough = omega (arith, is.enough, here, later, first, second, at.of_page);
      tables_are = λ known. is.tables_are (sooner known);
      rows_are = λ known other others.
          let same : t ≡ other = same_Some t other (sym at.of_table ∙ others) in
          let so_far : AddsPages at.chunk.view job.page front job.rows =
          subst (λ (hs : List (HeldChunk (Viewed File))). AddsFirst hs job.page front job.rows) cons (is.rows_are (sooner known) t at.of_table) in
          let more : AddsPage at.chunk.view job.page job.rows next.rows =
          read.rows (chunk_known tells pages s it.at it.place it.table (chunk_at at.chunk) new.reading.landings it.stands it.has it.built known) in
          let all : AddsPages at.chunk.view (job.page + 1) front next.rows = adds_pages_more at.chunk.view job.page front job.rows next.rows at.of_page so_far more in
          subst (λ (t : HeldTable (Viewed File)). AreRowsTo t job.chunk (job.page + 1) next.rows) same
          (subst (λ (hs : List (HeldChunk (Viewed File))). AddsFirst hs (job.page + 1) front next.rows) (sym cons) all);
    }

-- ---- turns

module _ {File : Type 0} (tells : Bool) (pages : File → List (List ℕ)) (x : Statement) (job settled : SelectJob File) where
  -- the port behind reads alone
  port_on : (port new : PortSeen File) → IsIdle port → ReadsOn port.reading new.reading → new.write_faults ≡ port.write_faults → new.written ≡ port.written → GoesOn port new
  port_on port new idle reads faults kept = record { reads = reads; faults = omega (arith, faults); empty = kept ∙ idle.empty }

  -- a page was read
  pub turn_goes : (floor : ℕ) (now : Holding (Viewed File)) (next : SelectJob File) (port new : PortSeen File) → IsReading tells pages x job port → Keeps tells pages job settled
      → ReadsNext tells settled next port new (Ok tt) → IsStep tells pages x floor now now (stage.Reading job) port new (step.Goes (stage.Reading next))
  turn_goes floor now next port new reading keeps read =
      let is = keeps.selecting x port.reading.landings reading.selecting in
      let at = read.at in
      let s = settled.look.held.value in
      let held = held_here tells pages x settled port.reading.landings is at in
      let it = stands_held tells pages s held.0 at.table settled.chunk at.chunk held.1 at.of_chunk in
      let on = port_on port new reading.idle read.reads read.faults read.kept in
      let well : AllWell s port new = chunk_well tells pages s (chunk_at at.chunk) port new it read.reads_chunk read.faults in
      let some = some_left tells pages x settled port.reading.landings is at in
      let looks : next.look ≡ job.look = ap (λ (j : SelectJob File). j.look) read.is ∙ keeps.look_is in
      let fewer : next.left ≡ settled.left - 1 = ap (λ (j : SelectJob File). j.left) read.is in record {
        same = refl;
        staged = record {
          idle = idle_still port new reading.idle on;
          selecting = subst (λ (j : SelectJob File). IsSelecting tells pages x j new.reading.landings) (sym read.is) (selecting_read tells pages x settled next port new is read);
        };
        well = subst (λ (l : Look File). AllWell l.held.value port new) keeps.look_is well;
        reads = read.reads;
        looks = inl (ap (λ (l : Look File). Some l) looks);
        begun = (next.look, refl);
        fewer = omega (arith, fewer, some, keeps.left_is);
      }

  -- a page was not read
  pub turn_fails : (floor : ℕ) (now : Holding (Viewed File)) (next : SelectJob File) (port new : PortSeen File) (cause : Failure) (at : ℕ) → IsReading tells pages x job port → Keeps tells pages job settled
      → ReadsNext tells settled next port new (Err cause) → at ≡ settled.look.at → IsStep tells pages x floor now now (stage.Reading job) port new (step.Answered (Failed at cause))
  turn_fails floor now next port new cause told reading keeps read counted =
      let is = keeps.selecting x port.reading.landings reading.selecting in
      let at = read.at in
      let s = settled.look.held.value in
      let held = held_here tells pages x settled port.reading.landings is at in
      let it = stands_held tells pages s held.0 at.table settled.chunk at.chunk held.1 at.of_chunk in
      let failed = chunk_failed tells pages s (chunk_at at.chunk) port new cause it read.reads_chunk read.faults in (
        port_on port new reading.idle read.reads read.faults read.kept,
        inr (inl (record {
          same = refl;
          look = settled.look;
          looked = ap (λ (l : Look File). Some l) (sym keeps.look_is);
          over = record {
            settles = λ max. (record { same_database = refl; same_history = refl; at_is = counted ∙ is.looked.at_is }, may_read x.text is.tree cause is.is failed.0);
            cause = λ files are. failed.1 files are;
          };
        })),
      )

  -- all are read
  pub turn_answers : (floor : ℕ) (now : Holding (Viewed File)) (port : PortSeen File) (r : Reply) → IsReading tells pages x job port → Keeps tells pages job settled → length settled.tables ≡ length settled.query.places → Replies settled r
      → IsStep tells pages x floor now now (stage.Reading job) port port (step.Answered r)
  turn_answers floor now port r reading keeps whole replies =
      let is = keeps.selecting x port.reading.landings reading.selecting in
      let s = settled.look.held.value in
      let well : AllWell s port port = well_unread s port port refl refl in (
        goes_nowhere port reading.idle,
        inr (inl (record {
          same = refl;
          look = settled.look;
          looked = ap (λ (l : Look File). Some l) (sym keeps.look_is);
          over = record {
            settles = λ max. replies.settles tells pages x port.reading.landings max is whole;
            cause = λ files are. (elim replies.calm [
              | inl unfailed ↦ replied_well tells s port port r unfailed well files are
              | inr wants ↦ subst (λ r. RepliedBy tells (database_of s) files port port r) (sym wants) (memory_over tells s port port well files are)
            ]);
          };
        })),
      )

  -- memory was wanting
  pub turn_wants : (floor : ℕ) (now : Holding (Viewed File)) (port : PortSeen File) (at : ℕ) → IsReading tells pages x job port → at ≡ job.look.at
      → IsStep tells pages x floor now now (stage.Reading job) port port (step.Answered (Failed at Memory))
  turn_wants floor now port at reading counted =
      let s = job.look.held.value in (
        goes_nowhere port reading.idle,
        inr (inl (record {
          same = refl;
          look = job.look;
          looked = refl;
          over = record {
            settles = λ max. (record { same_database = refl; same_history = refl; at_is = counted ∙ reading.selecting.looked.at_is }, refl);
            cause = λ files are. memory_over tells s port port (well_unread s port port refl refl) files are;
          };
        })),
      )

-- ---- the start

-- a query that has read nothing
abbrev pub begun : {File : Type 0} → Look File → BoundQuery → Snapshot (Viewed File) → List (List (List Value)) → List (List Value) → ℕ → SelectJob File
begun look query view tables rows left = record { look = look; query = query; view = view; tables = tables; rows = rows; chunk = 0; page = 0; left = left }

module _ {File : Type 0} (tells : Bool) (pages : File → List (List ℕ)) (x : Statement) (tree : SelectAst) (now : Holding (Viewed File)) (look : Look File) (query : BoundQuery) (view : Snapshot (Viewed File)) (left : ℕ) where
  begun_empty : parsed x.text ≡ Ok (ast.Select tree) → IsSound tells pages now → look.at ≡ length now.history → look.held.value ≡ now → select_query tree (database_of now) ≡ Some query
      → length view.tables ≡ length query.places → HoldsOn tells pages now query.places view → All (TableStands tells pages) view.tables → left ≡ sum_by (λ t. pages_of t.chunks) view.tables
      → (landings : List (Landing File)) → IsSelecting tells pages x (begun look query view [] [] left) landings
  begun_empty is sound at held query_is paired holds stands counted landings = record {
    looked = record { at_is = at ∙ ap (λ (h : Holding (Viewed File)). length h.history) (sym held); sound = subst (λ (h : Holding (Viewed File)). IsSound tells pages h) (sym held) sound };
    tree = tree;
    is = is;
    query_is = subst (λ (h : Holding (Viewed File)). select_query tree (database_of h) ≡ Some query) (sym held) query_is;
    paired = paired;
    holds = subst (λ (h : Holding (Viewed File)). HoldsOn tells pages h query.places view) (sym held) holds;
    stands = stands;
    within = omega arith;
    enough = omega (arith, left_first view.tables, counted);
    tables_are = λ known. refl;
    rows_are = λ known t has. adds_first t.chunks [] [] refl;
  }

  pub selecting_begun : (tables : List (List (List Value))) (rows : List (List Value)) → tables ≡ [] → rows ≡ [] → parsed x.text ≡ Ok (ast.Select tree) → IsSound tells pages now → look.at ≡ length now.history → look.held.value ≡ now
      → select_query tree (database_of now) ≡ Some query → length view.tables ≡ length query.places → HoldsOn tells pages now query.places view → All (TableStands tells pages) view.tables
      → left ≡ sum_by (λ t. pages_of t.chunks) view.tables → (landings : List (Landing File)) → IsSelecting tells pages x (begun look query view tables rows left) landings
  selecting_begun tables rows no_tables no_rows is sound at held query_is paired holds stands counted landings =
      subst (λ ts. IsSelecting tells pages x (begun look query view ts rows left) landings) (sym no_tables)
      (subst (λ rs. IsSelecting tells pages x (begun look query view [] rs left) landings) (sym no_rows) (begun_empty is sound at held query_is paired holds stands counted landings))

-- ---- the answer

-- the tables of all places
all_tables : {File : Type 0} (tells : Bool) (pages : File → List (List ℕ)) (x : Statement) (job : SelectJob File) (landings : List (Landing File)) → IsSelecting tells pages x job landings → length job.tables ≡ length job.query.places
    → DatabaseIsKnown tells (database_of job.look.held.value) landings → job.tables ≡ map (rows_of_number (database_of job.look.held.value)) job.query.places
all_tables tells pages x job landings is whole known =
    is.tables_are known ∙ ap (map (rows_of_number (database_of job.look.held.value))) (take_all (length job.tables) job.query.places (omega (arith, whole)))

pub replies_rows : {File : Type 0} (job : SelectJob File) (rows : List (List Cell)) → AnswersFor job.query.order job.query.limit (out job.query (loops_over job.query.cond job.tables)) rows
    → is_empty_aggregate job.query (loops_over job.query.cond job.tables) ≡ false → Replies job (Rows job.look.at rows)
replies_rows job rows answer some = record {
  settles = λ tells pages x landings max is whole.
      let s = job.look.held.value in
      settles_rows x max (DatabaseIsKnown tells (database_of s) landings) (database_of s) s.history job.look.at is.tree job.query job.tables rows is.looked.at_is is.is is.query_is (all_tables tells pages x job landings is whole) answer some;
  calm = inl tt;
}

pub replies_none : {File : Type 0} (job : SelectJob File) → is_empty_aggregate job.query (loops_over job.query.cond job.tables) ≡ true → Replies job (Refused job.look.at EmptyAggregate)
replies_none job none = record {
  settles = λ tells pages x landings max is whole.
      let s = job.look.held.value in
      settles_over_none x max (DatabaseIsKnown tells (database_of s) landings) (database_of s) s.history job.look.at is.tree job.query job.tables is.looked.at_is is.is is.query_is (all_tables tells pages x job landings is whole) none;
  calm = inl tt;
}
