-- What is true of all that a catalogue holds stays true through each command that is accepted.
use Rattle.std.proofs.Common.{◌≡◌, ℕ, ◌+◌, ◌<◌, ◌≤◌, Bool, true, false, not, cond, ◌==◌, List, [], ◌∷◌, ◌++◌, length, Some, None, refl, sym, ap, subst, ◌∙◌, arith, leb-false, eqb-true, ne_eqb}
use Rattle.std.specs.Prelude.{slice_get, slice_set, nat_le, is_some}
use Rattle.std.specs.Cmp.Lexicographic.{bytes_decides}
use Rattle.std.specs.Bool.{then_some}
use Rattle.std.specs.List.{All, sum_by, count_by}
use Rattle.std.proofs.lemmas.List.{length_push, length-set}
use Rattle.std.proofs.lemmas.List.Elements.{All-nil, All-push, All-set, All-get_or, All-filter}
use Rattle.std.proofs.lemmas.List.Filters.{length-filter_both, sum_by-filter_both}
use Rattle.std.proofs.lemmas.List.Sums.{sum_by_push, sum_by-set, get_or-le-sum_by}
use Rattle.std.proofs.lemmas.Option.{slice_get_within, get_or_from_slice_get}
use Rattle.hv_row.specs.declared.schema.Column.{Column}
use Rattle.hv_row.specs.Schema.{same_name}
use Rattle.hv_model.specs.declared.catalogue.Chunk.{Chunk}
use Rattle.hv_model.specs.declared.catalogue.Table.{Table}
use Rattle.hv_model.specs.declared.catalogue.Database.{Database}
use Rattle.hv_model.specs.declared.catalogue.Entry.{Entry}
use Rattle.hv_model.specs.declared.catalogue.StepRefusal.TheVariants.{TableExists, TooManyTables, TooManyChunks, NoChunk, HistoryFull}
use Rattle.hv_model.specs.Causes.{first_of}
use Rattle.hv_model.specs.Database.{empty_database, table_number, has_chunk, with_table, with_last_chunk, without_chunk, with_chunk, with_purged, full, create_causes, import_causes, purge_causes}
use Rattle.hv_view.specs.View.{Viewed, IsBuilt}
use Rattle.hv_catalogue.specs.Holding.{Holding, IsKept, AreBuilt, numbered_in, standing}
use Rattle.hv_catalogue.proofs.Changes.{held_after}
use Rattle.hv_catalogue.proofs.Points.{first_none, fails, absent, all_fail, count_none, any_none}

module _ {C : Type 0} where
  pub empty_kept : (held : Holding C) → held ≡ record { database = empty_database; history = [] } → IsKept held
  empty_kept held is =
      let empty : Holding C = record { database = empty_database; history = [] } in
      let kept : IsKept empty = record {
        counted = refl;
        named = λ name. omega arith;
        numbered = λ number. omega arith;
        made = λ number above. refl;
        made_few = omega arith;
        tables_made = omega arith;
        tables_few = omega arith;
        chunks_few = All-nil (λ (t : Table C). length t.chunks ≤ 1024);
        entries_few = omega arith;
      } in
      subst (λ (h : Holding C). IsKept h) (sym is) kept

  -- what is known where nothing stands against a command
  pub create_room : (name : List ℕ) (s : Database C) → first_of (create_causes name s) ≡ None → (table_number s name ≡ None) × (length s.tables < 64) × (s.length < 65536)
  create_room name s none =
      let a = first_none (then_some (is_some (table_number s name)) TableExists) (then_some (nat_le 64 (length s.tables)) TooManyTables ∷ full s ∷ []) none in
      let b = first_none (then_some (nat_le 64 (length s.tables)) TooManyTables) (full s ∷ []) a.1 in
      let c = first_none (full s) [] b.1 in
      (absent (table_number s name) (fails (is_some (table_number s name)) TableExists a.0), leb-false 64 (length s.tables) (fails (nat_le 64 (length s.tables)) TooManyTables b.0), leb-false 65536 s.length (fails (nat_le 65536 s.length) HistoryFull c.0))

  pub import_room : (t : Table C) (s : Database C) → first_of (import_causes t s) ≡ None → (length t.chunks < 1024) × (s.length < 65536)
  import_room t s none =
      let a = first_none (then_some (nat_le 1024 (length t.chunks)) TooManyChunks) (full s ∷ []) none in
      let b = first_none (full s) [] a.1 in
      (leb-false 1024 (length t.chunks) (fails (nat_le 1024 (length t.chunks)) TooManyChunks a.0), leb-false 65536 s.length (fails (nat_le 65536 s.length) HistoryFull b.0))

  pub purge_room : (t : Table C) (number : ℕ) (s : Database C) → first_of (purge_causes t number s) ≡ None → s.length < 65536
  purge_room t number s none =
      let a = first_none (then_some (not (has_chunk number t)) (NoChunk number)) (full s ∷ []) none in
      let b = first_none (full s) [] a.1 in
      leb-false 65536 s.length (fails (nat_le 65536 s.length) HistoryFull b.0)

  -- a sum over the tables, one of which is another
  swapped : (weight : Table C → ℕ) (s : Database C) (at : ℕ) (t u : Table C) → slice_get s.tables at ≡ Some t → sum_by weight (slice_set s.tables at u) + weight t ≡ sum_by weight s.tables + weight u
  swapped weight s at t u stands =
      subst (λ (x : Table C). sum_by weight (slice_set s.tables at u) + weight x ≡ sum_by weight s.tables + weight u) (get_or_from_slice_get s.tables at t t stands)
      (sum_by-set weight s.tables at u t (slice_get_within s.tables at t stands))

  one_part : (weight : Table C → ℕ) (s : Database C) (at : ℕ) (t : Table C) → slice_get s.tables at ≡ Some t → weight t ≤ sum_by weight s.tables
  one_part weight s at t stands = subst (λ (x : Table C). weight x ≤ sum_by weight s.tables) (get_or_from_slice_get s.tables at t t stands) (get_or-le-sum_by weight s.tables at t (slice_get_within s.tables at t stands))

  pub one_of : (P : Table C → Type 0) (s : Database C) (at : ℕ) (t : Table C) → slice_get s.tables at ≡ Some t → All P s.tables → P t
  one_of P s at t stands all = subst P (get_or_from_slice_get s.tables at t t stands) (All-get_or P s.tables at t (slice_get_within s.tables at t stands) all)

  -- a number past those made has no chunk yet
  pub fresh : (held : Holding C) (at : ℕ) (t : Table C) (number : ℕ) → IsKept held → held.database.made < number → slice_get held.database.tables at ≡ Some t → has_chunk number t ≡ false
  fresh held at t number kept above stands =
      let none : numbered_in number t ≡ 0 = omega (arith, kept.made number above, one_part (numbered_in number) held.database at t stands) in
      any_none (λ (c : Chunk C). c.number == number) t.chunks none

  -- a new name is that of one table
  named_once : (held : Holding C) (t : Table C) (other : List ℕ) → IsKept held → table_number held.database t.name ≡ None → (same : Bool) → same_name t.name other ≡ same
      → count_by (λ (u : Table C). same_name u.name other) held.database.tables + cond same 1 0 ≤ 1
  named_once held t other kept none true is =
      let name : t.name ≡ other = (bytes_decides t.name other).0 is in
      let nothing : count_by (λ (u : Table C). same_name u.name other) held.database.tables ≡ 0 =
      subst (λ (n : List ℕ). count_by (λ (u : Table C). same_name u.name n) held.database.tables ≡ 0) name
      (count_none (λ (u : Table C). same_name u.name t.name) held.database.tables (all_fail (λ (u : Table C). same_name u.name t.name) held.database.tables none)) in
      omega arith
  named_once held t other kept none false is = omega (arith, kept.named other)

  pub created_kept : (held : Holding C) (name : List ℕ) (schema : List Column) (e : Entry) → IsKept held → first_of (create_causes name held.database) ≡ None
      → IsKept (held_after (with_table name schema held.database) held.history e)
  created_kept held name schema e kept none =
      let s = held.database in
      let room = create_room name s none in
      let t : Table C = record { name = name; schema = schema; chunks = [] } in
      let longer : length (held.history ++ e ∷ []) ≡ length held.history + 1 = length_push held.history e in
      let more : length (s.tables ++ t ∷ []) ≡ length s.tables + 1 = length_push s.tables t in
      let counted : s.length ≡ length held.history = kept.counted in
      let tables : length s.tables ≤ length held.history = kept.tables_made in
      let made : s.made ≤ length held.history = kept.made_few in
      let few : length s.tables < 64 = room.1 in
      let short : s.length < 65536 = room.2 in
      let stays : (number : ℕ) → standing number (with_table name schema s) ≡ standing number s = λ number. (let pushed : standing number (with_table name schema s) ≡ standing number s + 0 = sum_by_push (numbered_in number) s.tables t in omega arith) in record {
        counted = omega arith;
        named = λ other. (let pushed : count_by (λ (u : Table C). same_name u.name other) (s.tables ++ t ∷ []) ≡ count_by (λ (u : Table C). same_name u.name other) s.tables + cond (same_name name other) 1 0 =
            sum_by_push (λ (u : Table C). cond (same_name u.name other) 1 0) s.tables t in
            let once : count_by (λ (u : Table C). same_name u.name other) s.tables + cond (same_name name other) 1 0 ≤ 1 = named_once held t other kept room.0 (same_name name other) refl in
            omega arith);
        numbered = λ number. (let once : standing number s ≤ 1 = kept.numbered number in let same = stays number in omega arith);
        made = λ number above. stays number ∙ kept.made number above;
        made_few = omega arith;
        tables_made = omega arith;
        tables_few = omega arith;
        chunks_few = All-push (λ (u : Table C). length u.chunks ≤ 1024) s.tables t kept.chunks_few (omega arith);
        entries_few = omega arith;
      }

  -- the tables' names are the same where one table of a name is another of that name
  names_stay : (s : Database C) (at : ℕ) (t u : Table C) (other : List ℕ) → slice_get s.tables at ≡ Some t → u.name ≡ t.name
      → count_by (λ (x : Table C). same_name x.name other) (slice_set s.tables at u) ≡ count_by (λ (x : Table C). same_name x.name other) s.tables
  names_stay s at t u other stands name =
      let swap : count_by (λ (x : Table C). same_name x.name other) (slice_set s.tables at u) + cond (same_name t.name other) 1 0 ≡ count_by (λ (x : Table C). same_name x.name other) s.tables + cond (same_name u.name other) 1 0 =
      swapped (λ (x : Table C). cond (same_name x.name other) 1 0) s at t u stands in
      let same : cond {A = ℕ} (same_name u.name other) 1 0 ≡ cond {A = ℕ} (same_name t.name other) 1 0 = ap {B = ℕ} (λ (n : List ℕ). cond (same_name n other) 1 0) name in
      omega (arith, swap, same)

  -- how often a number stands after one chunk more
  more_standing : (s : Database C) (at : ℕ) (t : Table C) (content : C) (number : ℕ) → slice_get s.tables at ≡ Some t
      → standing number (with_chunk at t content s) ≡ standing number s + cond (s.made + 1 == number) 1 0
  more_standing s at t content number stands =
      let u = with_last_chunk t (s.made + 1) content in
      let swap : standing number (with_chunk at t content s) + numbered_in number t ≡ standing number s + numbered_in number u = swapped (numbered_in number) s at t u stands in
      let pushed : numbered_in number u ≡ numbered_in number t + cond (s.made + 1 == number) 1 0 =
      sum_by_push (λ (c : Chunk C). cond (c.number == number) 1 0) t.chunks (record { number = s.made + 1; content = content }) in
      omega arith

  numbered_once : (held : Holding C) (number : ℕ) → IsKept held → (same : Bool) → (held.database.made + 1 == number) ≡ same → standing number held.database + cond same 1 0 ≤ 1
  numbered_once held number kept true is =
      let new : held.database.made + 1 ≡ number = eqb-true (held.database.made + 1) number is in
      let above : held.database.made < number = omega arith in
      let none : standing number held.database ≡ 0 = kept.made number above in
      omega arith
  numbered_once held number kept false is = let once : standing number held.database ≤ 1 = kept.numbered number in omega arith

  pub imported_kept : (held : Holding C) (at : ℕ) (t : Table C) (content : C) (e : Entry) → IsKept held → slice_get held.database.tables at ≡ Some t → first_of (import_causes t held.database) ≡ None
      → IsKept (held_after (with_chunk at t content held.database) held.history e)
  imported_kept held at t content e kept stands none =
      let s = held.database in
      let room = import_room t s none in
      let u = with_last_chunk t (s.made + 1) content in
      let longer : length (held.history ++ e ∷ []) ≡ length held.history + 1 = length_push held.history e in
      let same : length (slice_set s.tables at u) ≡ length s.tables = length-set s.tables at u in
      let more : length u.chunks ≡ length t.chunks + 1 = length_push t.chunks (record { number = s.made + 1; content = content }) in
      let counted : s.length ≡ length held.history = kept.counted in
      let tables : length s.tables ≤ length held.history = kept.tables_made in
      let few : length s.tables ≤ 64 = kept.tables_few in
      let made : s.made ≤ length held.history = kept.made_few in
      let chunks : length t.chunks < 1024 = room.0 in
      let short : s.length < 65536 = room.1 in
      let room_left : length u.chunks ≤ 1024 = omega arith in record {
        counted = omega arith;
        named = λ other. (let stay = names_stay s at t u other stands refl in let once : count_by (λ (x : Table C). same_name x.name other) s.tables ≤ 1 = kept.named other in omega arith);
        numbered = λ number. (let stood = more_standing s at t content number stands in let once = numbered_once held number kept (s.made + 1 == number) refl in omega arith);
        made = λ number above. (let past : s.made + 1 < number = above in
            let apart : (s.made + 1 == number) ≡ false = ne_eqb (s.made + 1) number (λ (e : s.made + 1 ≡ number). omega arith) in
            let before : s.made < number = omega arith in
            let none : standing number s + cond false 1 0 ≡ 0 = (let nothing : standing number s ≡ 0 = kept.made number before in omega arith) in
            more_standing s at t content number stands ∙ ap {B = ℕ} (λ (b : Bool). standing number s + cond b 1 0) apart ∙ none);
        made_few = omega arith;
        tables_made = omega arith;
        tables_few = omega arith;
        chunks_few = All-set (λ (x : Table C). length x.chunks ≤ 1024) s.tables at u room_left kept.chunks_few;
        entries_few = omega arith;
      }

  -- no number stands more often after one chunk less
  less_standing : (s : Database C) (at : ℕ) (t : Table C) (gone number : ℕ) → slice_get s.tables at ≡ Some t → standing number (with_purged at t gone s) ≤ standing number s
  less_standing s at t gone number stands =
      let u = without_chunk t gone in
      let swap : standing number (with_purged at t gone s) + numbered_in number t ≡ standing number s + numbered_in number u = swapped (numbered_in number) s at t u stands in
      let parts = sum_by-filter_both (λ (c : Chunk C). not (c.number == gone)) (λ (c : Chunk C). not (not (c.number == gone))) (λ (c : Chunk C). refl) (λ (c : Chunk C). cond (c.number == number) 1 0) t.chunks in
      let less : numbered_in number u ≤ numbered_in number t = omega (arith, parts) in
      omega arith

  pub purged_kept : (held : Holding C) (at : ℕ) (t : Table C) (gone : ℕ) (e : Entry) → IsKept held → slice_get held.database.tables at ≡ Some t → first_of (purge_causes t gone held.database) ≡ None
      → IsKept (held_after (with_purged at t gone held.database) held.history e)
  purged_kept held at t gone e kept stands none =
      let s = held.database in
      let u = without_chunk t gone in
      let longer : length (held.history ++ e ∷ []) ≡ length held.history + 1 = length_push held.history e in
      let same : length (slice_set s.tables at u) ≡ length s.tables = length-set s.tables at u in
      let parts = length-filter_both (λ (c : Chunk C). not (c.number == gone)) (λ (c : Chunk C). not (not (c.number == gone))) (λ (c : Chunk C). refl) t.chunks in
      let counted : s.length ≡ length held.history = kept.counted in
      let tables : length s.tables ≤ length held.history = kept.tables_made in
      let few : length s.tables ≤ 64 = kept.tables_few in
      let made : s.made ≤ length held.history = kept.made_few in
      let short : s.length < 65536 = purge_room t gone s none in
      let chunks : length t.chunks ≤ 1024 = one_of (λ (x : Table C). length x.chunks ≤ 1024) s at t stands kept.chunks_few in
      let room_left : length u.chunks ≤ 1024 = omega (arith, parts) in record {
        counted = omega arith;
        named = λ other. (let stay = names_stay s at t u other stands refl in let once : count_by (λ (x : Table C). same_name x.name other) s.tables ≤ 1 = kept.named other in omega arith);
        numbered = λ number. (let stood = less_standing s at t gone number stands in let once : standing number s ≤ 1 = kept.numbered number in omega arith);
        made = λ number above. (let stood = less_standing s at t gone number stands in let none : standing number s ≡ 0 = kept.made number above in omega arith);
        made_few = omega arith;
        tables_made = omega arith;
        tables_few = omega arith;
        chunks_few = All-set (λ (x : Table C). length x.chunks ≤ 1024) s.tables at u room_left kept.chunks_few;
        entries_few = omega arith;
      }

  -- ---- what is built

  module _ {File : Type 0} (viewed : C → Viewed File) (tells : Bool) (pages : File → List (List ℕ)) where
    abbrev ChunkBuilt : List Column → Chunk C → Type 0
    ChunkBuilt schema c = IsBuilt tells pages schema (viewed c.content).rows (viewed c.content)

    pub created_built : (name : List ℕ) (schema : List Column) (s : Database C) → AreBuilt viewed tells pages s → AreBuilt viewed tells pages (with_table name schema s)
    created_built name schema s built =
        All-push (λ (t : Table C). All (ChunkBuilt t.schema) t.chunks) s.tables (record { name = name; schema = schema; chunks = [] }) built (All-nil (ChunkBuilt schema))

    pub imported_built : (at : ℕ) (t : Table C) (content : C) (s : Database C) → slice_get s.tables at ≡ Some t → IsBuilt tells pages t.schema (viewed content).rows (viewed content) → AreBuilt viewed tells pages s → AreBuilt viewed tells pages (with_chunk at t content s)
    imported_built at t content s stands new built =
        let was : All (ChunkBuilt t.schema) t.chunks = one_of (λ (t : Table C). All (ChunkBuilt t.schema) t.chunks) s at t stands built in
        All-set (λ (t : Table C). All (ChunkBuilt t.schema) t.chunks) s.tables at (with_last_chunk t (s.made + 1) content)
        (All-push (ChunkBuilt t.schema) t.chunks (record { number = s.made + 1; content = content }) was new) built

    pub purged_built : (at : ℕ) (t : Table C) (gone : ℕ) (s : Database C) → slice_get s.tables at ≡ Some t → AreBuilt viewed tells pages s → AreBuilt viewed tells pages (with_purged at t gone s)
    purged_built at t gone s stands built =
        let was : All (ChunkBuilt t.schema) t.chunks = one_of (λ (t : Table C). All (ChunkBuilt t.schema) t.chunks) s at t stands built in
        All-set (λ (t : Table C). All (ChunkBuilt t.schema) t.chunks) s.tables at (without_chunk t gone)
        (All-filter (λ (c : Chunk C). not (c.number == gone)) (ChunkBuilt t.schema) t.chunks was) built
