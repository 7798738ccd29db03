-- Tables as they are kept, one of them looked up or changed.
use Rattle.std.proofs.Common.{◌≡◌, ℕ, zero, suc, ◌+◌, ◌≤◌, Bool, true, false, not, cond, ◌||◌, ◌==◌, List, [], ◌∷◌, ◌++◌, length, map, filter, take, get_or, Option, Some, None, is_some, nat_eq, refl, sym, ap, subst, ◌∙◌}
use Rattle.std.specs.Prelude.{position, slice_get, slice_set}
use Rattle.std.specs.Cmp.{nat_eq_equiv}
use Rattle.std.specs.Cmp.Lexicographic.{pointwise, nat_list_eq_equiv}
use Rattle.std.specs.List.{AllByRecursion, IsDistinct, list_any, prefix_len}
use Rattle.std.specs.Option.{option_map}
use Rattle.std.specs.Map.{keys_of, values_of, lookup, remove_entry}
use Rattle.std.proofs.lemmas.List.{length-map, map_push, map_more, take_all}
use Rattle.std.proofs.lemmas.Option.{same_Some, slice_get-map, slice_get_within, get_or_from_slice_get}
use Rattle.std.proofs.lemmas.Map.Keys.{IsDistinct-head, IsDistinct-tail}
use Rattle.indexmap.specs.IndexMap.{IndexMap, insert_entry, get}
use Rattle.indexmap.specs.Layout.{set_value_at}
use Rattle.indexmap.proofs.MapLemmas.{some_index}
use Rattle.indexmap.proofs.CallerLemmas.{insert_entry-new}
use Rattle.hv_row.specs.Schema.{same_name}
use Rattle.hv_model.specs.declared.catalogue.Chunk.{Chunk}
use Rattle.hv_model.specs.declared.catalogue.Table.{Table}
use Rattle.hv_model.specs.Database.{has_chunk, with_last_chunk, without_chunk}
use Rattle.hv_view.specs.declared.held.HeldChunk.{HeldChunk}
use Rattle.hv_catalogue.specs.declared.stored.Stored.{Stored}
use Rattle.hv_catalogue.specs.Holding.{held_chunk}
use Rattle.hv_catalogue.specs.Stored.{chunk_of, table_of, tables_of}
use Rattle.hv_catalogue.proofs.Points.{absent}

prefix_len-map : {X Y : Type 0} (g : X → Y) (test : Y → Bool) (xs : List X) → prefix_len test (map g xs) ≡ prefix_len (λ x. test (g x)) xs
prefix_len-map g test [] = refl
prefix_len-map g test (x ∷ xs) = ap (λ n. cond (test (g x)) (1 + n) 0) (prefix_len-map g test xs)

-- a test of the images is a test of the elements
position-map : {X Y : Type 0} (g : X → Y) (test : Y → Bool) (xs : List X) → position test (map g xs) ≡ position (λ x. test (g x)) xs
position-map g test xs = rw (prefix_len-map g (λ y. not (test y)) xs, length-map xs g) refl

-- the place of a name among the keys is the number of its table
pub number_is : {C : Type 0} (es : List (List ℕ × Stored C)) (name : List ℕ) → position (pointwise nat_eq name) (keys_of es) ≡ position (λ t. same_name t.name name) (tables_of es)
number_is {C} es name =
    let flip : position (λ (e : List ℕ × Stored C). pointwise nat_eq name e.0) es ≡ position (λ (e : List ℕ × Stored C). same_name e.0 name) es = λ j. position (λ (e : List ℕ × Stored C). nat_list_eq_equiv.symm name e.0 j) es in
    position-map (λ (e : List ℕ × Stored C). e.0) (pointwise nat_eq name) es ∙ flip ∙ sym (position-map table_of (λ (t : Table C). same_name t.name name) es)

-- the table of a number that was read
pub stored_is : {C : Type 0} (es : List (List ℕ × Stored C)) (at : ℕ) (v : Stored C) (t : Table C) → slice_get (values_of es) at ≡ Some v → slice_get (tables_of es) at ≡ Some t → t ≡ table_of (t.name, v)
stored_is [] at v t value stands = absurd cc
stored_is (e ∷ es) zero v t value stands =
    let kept : e.1 ≡ v = same_Some e.1 v value in
    let is : table_of e ≡ t = same_Some (table_of e) t stands in
    let over : table_of e ≡ table_of (t.name, v) = λ j. table_of ((is j).name, kept j) in
    sym is ∙ over
stored_is (e ∷ es) (suc at) v t value stands = stored_is es at v t value stands

-- one value set is one table set
pub tables_set : {C : Type 0} (es : List (List ℕ × Stored C)) (at : ℕ) (w : Stored C) (t u : Table C) → slice_get (tables_of es) at ≡ Some t → table_of (t.name, w) ≡ u → tables_of (set_value_at es at w) ≡ slice_set (tables_of es) at u
tables_set [] at w t u stands is = absurd cc
tables_set {C} (e ∷ es) zero w t u stands is =
    let was : table_of e ≡ t = same_Some (table_of e) t stands in
    let head : table_of (e.0, w) ≡ table_of (t.name, w) = λ j. table_of ((was j).name, w) in
    ap (λ (x : Table C). x ∷ tables_of es) (head ∙ is)
tables_set {C} (e ∷ es) (suc at) w t u stands is = ap (λ (ts : List (Table C)). table_of e ∷ ts) (tables_set es at w t u stands is)

-- a value set whose schema and chunks are those that it had
pub tables_same : {C : Type 0} (es : List (List ℕ × Stored C)) (at : ℕ) (v w : Stored C) → slice_get (values_of es) at ≡ Some v → w.schema ≡ v.schema → w.chunks.entries ≡ v.chunks.entries → tables_of (set_value_at es at w) ≡ tables_of es
tables_same [] at v w value schema chunks = refl
tables_same {C} (e ∷ es) zero v w value schema chunks =
    let kept : e.1 ≡ v = same_Some e.1 v value in
    let schemas : w.schema ≡ e.1.schema = schema ∙ ap (λ (x : Stored C). x.schema) (sym kept) in
    let entries : w.chunks.entries ≡ e.1.chunks.entries = chunks ∙ ap (λ (x : Stored C). x.chunks.entries) (sym kept) in
    let head : table_of (e.0, w) ≡ table_of e = λ j. record { name = e.0; schema = schemas j; chunks = map chunk_of (entries j) } in
    ap (λ (x : Table C). x ∷ tables_of es) head
tables_same {C} (e ∷ es) (suc at) v w value schema chunks = ap (λ (ts : List (Table C)). table_of e ∷ ts) (tables_same es at v w value schema chunks)

-- a table with one chunk more
pub one_more : {C : Type 0} (t : Table C) (v w : Stored C) (number : ℕ) (content : C) → t ≡ table_of (t.name, v) → w.schema ≡ v.schema
    → w.chunks.entries ≡ v.chunks.entries ++ (number, content) ∷ [] → table_of (t.name, w) ≡ with_last_chunk t number content
one_more {C} t v w number content is schema more =
    let chunks : map chunk_of w.chunks.entries ≡ t.chunks ++ chunk_of (number, content) ∷ [] =
    ap (map chunk_of) more ∙ map_push chunk_of v.chunks.entries (number, content) ∙ ap (λ (t : Table C). t.chunks ++ chunk_of (number, content) ∷ []) (sym is) in
    let schemas : w.schema ≡ t.schema = schema ∙ ap (λ (t : Table C). t.schema) (sym is) in
    λ j. record { name = t.name; schema = schemas j; chunks = chunks j }

-- a table with one chunk less
pub one_less : {C : Type 0} (t : Table C) (v w : Stored C) (number : ℕ) → t ≡ table_of (t.name, v) → w.schema ≡ v.schema
    → map chunk_of w.chunks.entries ≡ filter (λ c. not (c.number == number)) (map chunk_of v.chunks.entries) → table_of (t.name, w) ≡ without_chunk t number
one_less {C} t v w number is schema less =
    let chunks : map chunk_of w.chunks.entries ≡ filter (λ c. not (c.number == number)) t.chunks = less ∙ ap (λ (t : Table C). filter (λ c. not (c.number == number)) t.chunks) (sym is) in
    let schemas : w.schema ≡ t.schema = schema ∙ ap (λ (t : Table C). t.schema) (sym is) in
    λ j. record { name = t.name; schema = schemas j; chunks = chunks j }

-- a table without a chunk, put last under a new name
pub one_table : {C S : Type 0} (m : IndexMap (List ℕ) (Stored C) S) (new : List (List ℕ × Stored C)) (name : List ℕ) (v : Stored C)
    → position (λ t. same_name t.name name) (tables_of m.entries) ≡ None → v.chunks.entries ≡ [] → new ≡ insert_entry (pointwise nat_eq) m.entries name v
    → tables_of new ≡ tables_of m.entries ++ (record { name = name; schema = v.schema; chunks = [] }) ∷ []
one_table {C} m new name v fresh none is =
    let missing : get (pointwise nat_eq) m name ≡ None =
    absent (get (pointwise nat_eq) m name) (sym (some_index (pointwise nat_eq name) m.entries) ∙ ap is_some (number_is m.entries name ∙ fresh)) in
    ap tables_of (is ∙ insert_entry-new (pointwise nat_eq) m name v missing) ∙ map_push table_of m.entries (name, v)
    ∙ ap (λ (chunks : List (Chunk C)). tables_of m.entries ++ (record { name = name; schema = v.schema; chunks = chunks }) ∷ []) (ap (map chunk_of) none)

or_some : {X : Type 0} (here : Bool) (x : X) (o : Option X) → (here || is_some o) ≡ is_some (cond here (Some x) o)
or_some true x o = refl
or_some false x o = refl

-- a chunk stands where its number is a key
pub has_is : {C : Type 0} (number : ℕ) (es : List (ℕ × C)) → list_any (λ c. c.number == number) (map chunk_of es) ≡ is_some (lookup (nat_eq number) es)
has_is number [] = refl
has_is number (e ∷ es) =
    ap (λ (b : Bool). b || list_any (λ c. c.number == number) (map chunk_of es)) (nat_eq_equiv.symm e.0 number)
    ∙ ap (λ (b : Bool). nat_eq number e.0 || b) (has_is number es)
    ∙ or_some (nat_eq number e.0) e.1 (lookup (nat_eq number) es)

pub stored_has : {C : Type 0} (t : Table C) (v : Stored C) (number : ℕ) → t ≡ table_of (t.name, v) → has_chunk number t ≡ is_some (lookup (nat_eq number) v.chunks.entries)
stored_has {C} t v number is = ap (λ (t : Table C). has_chunk number t) is ∙ has_is number v.chunks.entries

pub stored_count : {C : Type 0} (t : Table C) (v : Stored C) → t ≡ table_of (t.name, v) → length t.chunks ≡ length v.chunks.entries
stored_count {C} t v is = ap (λ (t : Table C). length t.chunks) is ∙ length-map v.chunks.entries chunk_of

-- a filter that takes out none
keeps_all : {C : Type 0} (number : ℕ) (es : List (ℕ × C)) → AllByRecursion (λ key. nat_eq number key ≡ false) (keys_of es) → filter (λ c. not (c.number == number)) (map chunk_of es) ≡ map chunk_of es
keeps_all number [] apart = refl
keeps_all number (e ∷ es) apart =
    ap (λ (b : Bool). cond (not b) (chunk_of e ∷ filter (λ c. not (c.number == number)) (map chunk_of es)) (filter (λ c. not (c.number == number)) (map chunk_of es))) (nat_eq_equiv.symm e.0 number ∙ apart.0)
    ∙ ap (λ cs. chunk_of e ∷ cs) (keeps_all number es apart.1)

same_apart : (a b : ℕ) (keys : List ℕ) → nat_eq a b ≡ true → AllByRecursion (λ key. nat_eq b key ≡ false) keys → AllByRecursion (λ key. nat_eq a key ≡ false) keys
same_apart a b [] same apart = tt
same_apart a b (key ∷ keys) same apart = (nat_eq_equiv.congr a b key same ∙ apart.0, same_apart a b keys same apart.1)

-- one entry taken out of those with keys of their own
pub taken_out : {C : Type 0} (number : ℕ) (es : List (ℕ × C)) → IsDistinct nat_eq (keys_of es) → map chunk_of (remove_entry (nat_eq number) es) ≡ filter (λ c. not (c.number == number)) (map chunk_of es)
taken_out number [] distinct = refl
taken_out {C} number (e ∷ es) distinct =
    by (nat_eq number e.0) refl (taken_out number es (IsDistinct-tail nat_eq e.0 (keys_of es) distinct))
    ∙ sym (ap (λ (b : Bool). cond (not b) (chunk_of e ∷ filter (λ c. not (c.number == number)) (map chunk_of es)) (filter (λ c. not (c.number == number)) (map chunk_of es))) (nat_eq_equiv.symm e.0 number))
  where
    by : (b : Bool) → nat_eq number e.0 ≡ b → map chunk_of (remove_entry (nat_eq number) es) ≡ filter (λ c. not (c.number == number)) (map chunk_of es)
        → map chunk_of (cond b es (e ∷ remove_entry (nat_eq number) es)) ≡ cond (not b) (chunk_of e ∷ filter (λ c. not (c.number == number)) (map chunk_of es)) (filter (λ c. not (c.number == number)) (map chunk_of es))
    by true same rest = sym (keeps_all number es (same_apart number e.0 (keys_of es) same (IsDistinct-head nat_eq e.0 (keys_of es) distinct)))
    by false other rest = ap (λ cs. chunk_of e ∷ cs) rest

-- the table of an entry that was read
pub entry_is : {C : Type 0} (es : List (List ℕ × Stored C)) (at : ℕ) (e : List ℕ × Stored C) (t : Table C) → slice_get es at ≡ Some e → slice_get (tables_of es) at ≡ Some t → table_of e ≡ t
entry_is es at e t read stands = same_Some (table_of e) t (sym (slice_get-map table_of es at ∙ ap (option_map table_of) read) ∙ stands)

-- one chunk more of a table is held
pub one_held : {C : Type 0} (es : List (ℕ × C)) (place : ℕ) (e : ℕ × C) (held more : List (HeldChunk C)) (view : C) → slice_get es place ≡ Some e → view ≡ e.1 → held ≡ map held_chunk (take place (map chunk_of es))
    → more ≡ held ++ (record { chunk = e.0; view = view }) ∷ [] → more ≡ map held_chunk (take (place + 1) (map chunk_of es))
one_held {C} es place e held more view read same was longer =
    let cs = map chunk_of es in
    let at : slice_get cs place ≡ Some (chunk_of e) = slice_get-map chunk_of es place ∙ ap (option_map chunk_of) read in
    let last : get_or cs place (chunk_of e) ≡ chunk_of e = get_or_from_slice_get cs place (chunk_of e) (chunk_of e) at in
    longer
    ∙ ap (λ (v : C). held ++ (record { chunk = e.0; view = v }) ∷ []) same
    ∙ ap (λ (l : List (HeldChunk C)). l ++ held_chunk (chunk_of e) ∷ []) was
    ∙ ap (λ (c : Chunk C). map held_chunk (take place cs) ++ held_chunk c ∷ []) (sym last)
    ∙ sym (map_more held_chunk cs place (chunk_of e) (slice_get_within cs place (chunk_of e) at))

-- all of them are
pub all_held : {C : Type 0} (es : List (ℕ × C)) (place : ℕ) (held : List (HeldChunk C)) → length es ≤ place → held ≡ map held_chunk (take place (map chunk_of es)) → held ≡ map held_chunk (map chunk_of es)
all_held {C} es place held past was =
    was ∙ ap (λ (cs : List (Chunk C)). map held_chunk cs) (take_all place (map chunk_of es) (subst (λ (n : ℕ). n ≤ place) (sym (length-map es chunk_of)) past))
