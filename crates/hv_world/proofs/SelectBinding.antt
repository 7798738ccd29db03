-- A select over the tables of a database: where its places are allowed each has its head, and nothing refuses it but its names and types.
use Rattle.std.proofs.Common.{◌≡◌, ℕ, zero, suc, ◌+◌, ◌<◌, ◌≤◌, Bool, true, false, not, cond, List, [], ◌∷◌, ◌++◌, length, map, take, Option, Some, None, refl, sym, ap, ◌∙◌, subst, arith, ltb-false}
use Rattle.std.specs.Prelude.{nat_le, nat_lt, is_none, IfOk, Result, Ok, Err, if◌then◌else◌}
use Rattle.std.specs.List.{All, position, prefix_len, slice_get, cons_option}
use Rattle.std.specs.Option.{option_or, option_map, option_and_then}
use Rattle.std.proofs.lemmas.Bool.{eqb-false}
use Rattle.std.proofs.lemmas.List.{take_all, length-map}
use Rattle.std.proofs.lemmas.List.Elements.{All-map, All-weaker}
use Rattle.hv_row.specs.Schema.{same_name}
use Rattle.hv_model.specs.declared.tree.PlaceAst.{PlaceAst}
use Rattle.hv_model.specs.declared.tree.SelectAst.{SelectAst}
use Rattle.hv_model.specs.declared.catalogue.TableHead.{TableHead}
use Rattle.hv_model.specs.declared.catalogue.Table.{Table}
use Rattle.hv_model.specs.declared.catalogue.Database.{Database}
use Rattle.hv_model.specs.declared.query.BoundQuery.{BoundQuery}
use Rattle.hv_model.specs.declared.reply.Refusal.{Refusal}
use Rattle.hv_bind.specs.declared.binding.BindFault.{BindFault}
use Rattle.hv_model.specs.Database.{RowDatabase, table_number}
use Rattle.hv_model.specs.Scope.{is_number, place_refusal, refusal_behind, places_refusal}
use Rattle.hv_model.specs.Bound.{bind_refusal, bound_query}
use Rattle.hv_model.specs.Selected.{head_of, head_named, heads_of, is_absent, first_absent, select_refusal, select_query}
use Rattle.std.specs.List.{AllByRecursion}
use Rattle.std.proofs.lemmas.Option.{same_Some, slice_get-map, get_or_from_slice_get}
use Rattle.hv_bind.specs.Cause.{IsFirstRefusal}
use Rattle.hv_bind.specs.declared.binding.BindFault.TheVariants as bind_fault
use Rattle.hv_view.specs.View.{Viewed, IsBuilt}
use Rattle.hv_model.proofs.Mapped.{position-map, table_number-map}
use Rattle.hv_catalogue.specs.Holding.{Holding, IsKept, IsTaken, heads_named, held_chunk, held_table, first_unnamed}
use Rattle.hv_catalogue.specs.declared.taken.Taken.{Taken}
use Rattle.hv_catalogue.proofs.Named.{all_stand, head_is}
use Rattle.hv_catalogue.proofs.Steps.{named_is}
use Rattle.hv_world.specs.Stored.{database_of, IsSound}
use Rattle.hv_world.specs.Answer.{TableStands, HoldsOn}
use Rattle.hv_world.proofs.HeldTables.{row_table, all_stands, recursion_stands}
use Rattle.hv_bind.proofs.Refusing.{few_places, none_first, none_behind}
use Rattle.hv_bind.proofs.Standing.{element, position_within}

-- ---- places that nothing refuses

-- of three tests that refuse nothing the second fails
second_fails : (a b c : Bool) (r q t : Refusal) → (if a then Some r else (if b then Some q else (if c then Some t else None))) ≡ None → b ≡ false
second_fails true b c r q t e = absurd cc
second_fails false true c r q t e = absurd cc
second_fails false false c r q t e = refl

-- the table of a place that isn't refused is not the absent one
not_absent : (before : List PlaceAst) (at : ℕ) (absent : Option ℕ) (p : PlaceAst) → place_refusal before at absent p ≡ None → is_number absent at ≡ false
not_absent before at absent p e = second_fails (nat_le 4 at) (is_number absent at) _ _ _ _ e

-- of places that aren't refused none is the absent one
none_absent : (before : List PlaceAst) (at k : ℕ) (ps : List PlaceAst) → at ≤ k → k < at + length ps → refusal_behind before at (Some k) ps ≡ None → ⊥
none_absent before at k [] from below e = absurd (omega arith)
none_absent before at k (p ∷ ps) from below e =
    let each = none_first (place_refusal before at (Some k) p) (refusal_behind (before ++ p ∷ []) (at + 1) (Some k) ps) e in
    let here : k ≡ at → ⊥ = eqb-false k at (not_absent before at (Some k) p each.0) in
    none_absent (before ++ p ∷ []) (at + 1) k ps (omega (arith, here)) (omega arith) each.1

-- ---- the first of a list that passes

none_test : (t : Bool) (n : ℕ) → cond t (Some n) None ≡ None → t ≡ false
none_test true n e = absurd cc
none_test false n e = refl

-- where there is none, all fail
no_position : {X : Type 0} (p : X → Bool) (xs : List X) → position p xs ≡ None → length xs ≤ prefix_len (λ x. not (p x)) xs
no_position p xs e =
    ltb-false (prefix_len (λ x. not (p x)) xs) (length xs) (none_test (nat_lt (prefix_len (λ x. not (p x)) xs) (length xs)) (prefix_len (λ x. not (p x)) xs) e)

first_fails : (t : Bool) (n l : ℕ) → suc l ≤ cond (not t) (1 + n) 0 → (t ≡ false) × (l ≤ n)
first_fails true n l e = absurd (omega arith)
first_fails false n l e = (refl, omega arith)

-- ---- the heads of tables that stand

there : {X : Type 0} (o : Option X) → is_none o ≡ false → (x : X) × (o ≡ Some x)
there None e = absurd cc
there (Some x) e = (x, refl)

-- a table that stands has a head
head_stands : (s : RowDatabase) (name : List ℕ) → is_none (table_number s name) ≡ false → (h : TableHead) × (head_named s name ≡ Some h)
head_stands s name stands =
    let number = there (table_number s name) stands in
    let table = element s.tables number.0 (position_within (λ t. same_name t.name name) s.tables number.0 number.1) in
    (head_of number.0 table.0, ap (λ o. option_and_then (λ at. option_map (head_of at) (slice_get s.tables at)) o) number.1 ∙ ap (option_map (head_of number.0)) table.1)

-- where each table stands there are as many heads as places
heads_count : (s : RowDatabase) (ps : List PlaceAst) → length ps ≤ prefix_len (λ p. not (is_absent s p)) ps → length (heads_of s ps) ≡ length ps
heads_count s [] stand = refl
heads_count s (p ∷ ps) stand =
    let each = first_fails (is_absent s p) (prefix_len (λ p. not (is_absent s p)) ps) (length ps) stand in
    let head = head_stands s p.table.name each.0 in
    ap (λ o. length (cons_option o (heads_of s ps))) head.1 ∙ ap suc (heads_count s ps each.1)

-- ---- a select whose places are allowed

-- what holds of places that are allowed over a database
pub record AreAllowed (s : RowDatabase) (ps : List PlaceAst) : Type 0 where
  pub few : length ps ≤ 4
  pub stand : first_absent s ps ≡ None
  pub heads : length (heads_of s ps) ≡ length ps
  pub allowed : places_refusal ps None ≡ None

-- the absent one of places that are allowed is none
absent_none : (ps : List PlaceAst) (absent : Option ℕ) → ((k : ℕ) → absent ≡ Some k → k < length ps) → places_refusal ps absent ≡ None → absent ≡ None
absent_none ps None below e = refl
absent_none ps (Some k) below e = absurd (none_absent [] 0 k ps (omega arith) (let lt : k < length ps = below k refl in omega arith) e)

pub are_allowed : (s : RowDatabase) (ps : List PlaceAst) → places_refusal ps (first_absent s ps) ≡ None → AreAllowed s ps
are_allowed s ps e =
    let few : length ps ≤ 4 = few_places ps (first_absent s ps) e in
    let same : first_absent s ps ≡ position (is_absent s) ps = ap (position (is_absent s)) (take_all 4 ps few) in
    let stand : first_absent s ps ≡ None = absent_none ps (first_absent s ps) (λ k is. position_within (is_absent s) ps k (sym same ∙ is)) e in record {
      few = few;
      stand = stand;
      heads = heads_count s ps (no_position (is_absent s) ps (sym same ∙ stand));
      allowed = ap (places_refusal ps) (sym stand) ∙ e;
    }

-- a select's places are allowed, and these are their heads
pub record HasHeads (x : SelectAst) (s : RowDatabase) (heads : List TableHead) : Type 0 where
  pub allowed : places_refusal x.places (first_absent s x.places) ≡ None
  pub are : heads ≡ heads_of s x.places

-- nothing but its names and types refuses it
pub refusal_is : (x : SelectAst) (s : RowDatabase) (heads : List TableHead) → places_refusal x.places (first_absent s x.places) ≡ None → heads ≡ heads_of s x.places
    → select_refusal x s ≡ bind_refusal x heads
refusal_is x s heads allowed are =
    ap (λ o. option_or o (option_or (bind_refusal x (heads_of s x.places)) None)) allowed ∙ none_behind (bind_refusal x (heads_of s x.places)) ∙ ap (bind_refusal x) (sym are)

-- a place that is refused refuses the select
refused_place : (x : SelectAst) (s : RowDatabase) (absent : Option ℕ) (cause : Refusal) → absent ≡ first_absent s x.places → places_refusal x.places absent ≡ Some cause → select_refusal x s ≡ Some cause
refused_place x s absent cause is refused =
    ap (λ o. option_or o (option_or (bind_refusal x (heads_of s x.places)) None)) (ap (places_refusal x.places) (sym is) ∙ refused)

-- its query is the bound one
pub query_is : (x : SelectAst) (s : RowDatabase) (heads : List TableHead) (q : BoundQuery) → places_refusal x.places (first_absent s x.places) ≡ None → heads ≡ heads_of s x.places
    → bind_refusal x heads ≡ None → q ≡ bound_query x heads → select_query x s ≡ Some q
query_is x s heads q allowed are free is =
    let none : select_refusal x s ≡ None = refusal_is x s heads allowed are ∙ free in
    rw (none, sym are, is) refl

-- so what binding it gives is its query
select_is : (x : SelectAst) (s : RowDatabase) (heads : List TableHead) (r : Result BoundQuery BindFault) → places_refusal x.places (first_absent s x.places) ≡ None → heads ≡ heads_of s x.places
    → IfOk r (λ q. bind_refusal x heads ≡ None) → IfOk r (λ q. q ≡ bound_query x heads) → IfOk r (λ q. select_query x s ≡ Some q)
select_is x s heads (Ok q) allowed are free is = query_is x s heads q allowed are free is
select_is x s heads (Err fault) allowed are free is = tt

-- ---- the tables that a catalogue gave

-- the table of a name, with its number
record StandsNamed {C : Type 0} (s : Database C) (name : List ℕ) : Type 0 where
  pub at : ℕ
  pub table : Table C
  pub number : table_number s name ≡ Some at
  pub has : slice_get s.tables at ≡ Some table

stands_named : {C : Type 0} (s : Database C) (name : List ℕ) → is_none (table_number s name) ≡ false → StandsNamed s name
stands_named s name stands =
    let number = there (table_number s name) stands in
    let table = element s.tables number.0 (position_within (λ t. same_name t.name name) s.tables number.0 number.1) in record {
      at = number.0;
      table = table.0;
      number = number.1;
      has = table.1;
    }

-- the head at a place is that of the table of the name there
record HeadAt {C : Type 0} (s : Database C) (names : List (List ℕ)) (place : ℕ) (h : TableHead) : Type 0 where
  pub name : List ℕ
  pub stands : slice_get names place ≡ Some name
  pub it : StandsNamed s name
  pub is : head_of it.at it.table ≡ h

head_at : {C : Type 0} (s : Database C) (names : List (List ℕ)) → AllByRecursion (λ name. is_none (table_number s name) ≡ false) names → (place : ℕ) (h : TableHead) → slice_get (heads_named s names) place ≡ Some h → HeadAt s names place h
head_at s [] all place h e = absurd cc
head_at s (name ∷ names) all zero h e =
    let it = stands_named s name all.0 in
    let head : Some (head_of it.at it.table) ≡ Some h = sym (ap (λ o. slice_get (cons_option o (heads_named s names)) 0) (head_is s name it.at it.table it.number it.has)) ∙ e in record {
      name = name;
      stands = refl;
      it = it;
      is = same_Some (head_of it.at it.table) h head;
    }
head_at s (name ∷ names) all (suc place) h e =
    let it = stands_named s name all.0 in
    let rest = head_at s names all.1 place h (sym (ap (λ o. slice_get (cons_option o (heads_named s names)) (suc place)) (head_is s name it.at it.table it.number it.has)) ∙ e) in record {
      name = rest.name;
      stands = rest.stands;
      it = rest.it;
      is = rest.is;
    }

-- there is one for each name
heads_counted : {C : Type 0} (s : Database C) (names : List (List ℕ)) → AllByRecursion (λ name. is_none (table_number s name) ≡ false) names → length (heads_named s names) ≡ length names
heads_counted s [] all = refl
heads_counted s (name ∷ names) all =
    let it = stands_named s name all.0 in
    ap (λ o. length (cons_option o (heads_named s names))) (head_is s name it.at it.table it.number it.has) ∙ ap suc (heads_counted s names all.1)

-- an element of a mapped list
record MappedAt {X Y : Type 0} (f : X → Y) (xs : List X) (k : ℕ) (y : Y) : Type 0 where
  pub item : X
  pub has : slice_get xs k ≡ Some item
  pub is : f item ≡ y

mapped_at : {X Y : Type 0} (f : X → Y) (xs : List X) (k : ℕ) (y : Y) → slice_get (map f xs) k ≡ Some y → MappedAt f xs k y
mapped_at f [] k y e = absurd cc
mapped_at f (x ∷ xs) zero y e = record { item = x; has = refl; is = same_Some (f x) y e }
mapped_at f (x ∷ xs) (suc k) y e = let rest = mapped_at f xs k y e in record { item = rest.item; has = rest.has; is = rest.is }

module _ {File : Type 0} (tells : Bool) (pages : File → List (List ℕ)) (held : Holding (Viewed File)) (names : List (List ℕ)) (taken : Taken (Viewed File)) where
  -- as many tables as numbers
  pub view_paired : IsTaken held names taken → (places : List ℕ) → places ≡ map (λ h. h.number) taken.heads → length taken.view.tables ≡ length places
  view_paired is places numbers =
      is.count ∙ sym (ap length numbers ∙ length-map taken.heads (λ (h : TableHead). h.number) ∙ ap length is.heads ∙ heads_counted held.database names (all_stand held.database names is.all))

  -- they are those of the numbers
  pub view_holds : IsSound tells pages held → IsTaken held names taken → (places : List ℕ) → places ≡ map (λ h. h.number) taken.heads → HoldsOn tells pages held places taken.view
  view_holds sound is places numbers place at t stands has =
      let heads : slice_get (map (λ (h : TableHead). h.number) (heads_named held.database names)) place ≡ Some at =
      ap (λ l. slice_get l place) (sym (numbers ∙ ap (map (λ (h : TableHead). h.number)) is.heads)) ∙ stands in
      let head = mapped_at (λ (h : TableHead). h.number) (heads_named held.database names) place at heads in
      let found = head_at held.database names (all_stand held.database names is.all) place head.item head.has in
      let it = found.it in
      let numbered : it.at ≡ at = ap (λ (h : TableHead). h.number) found.is ∙ head.is in
      let both : Some (held_table it.table) ≡ Some t = sym (is.each place found.name it.table found.stands (named_is held.database found.name it.at it.table it.number it.has)) ∙ has in record {
        sound = sound;
        table = it.table;
        stands = ap (slice_get held.database.tables) (sym numbered) ∙ it.has;
        is = sym (same_Some (held_table it.table) t both);
      }

  -- each is one that stands
  pub view_stands : IsSound tells pages held → IsTaken held names taken → All (TableStands tells pages) taken.view.tables
  view_stands sound is k d below =
      let name = element names k (subst (λ n. k < n) is.count below) in
      let it = stands_named held.database name.0 (recursion_stands (λ name. is_none (table_number held.database name) ≡ false) names k name.0 (all_stand held.database names is.all) name.1) in
      let stands : slice_get taken.view.tables k ≡ Some (held_table it.table) = is.each k name.0 it.table name.1 (named_is held.database name.0 it.at it.table it.number it.has) in
      let built : All (λ c. IsBuilt tells pages it.table.schema c.content.rows c.content) it.table.chunks =
      all_stands (λ t. All (λ c. IsBuilt tells pages t.schema c.content.rows c.content) t.chunks) held.database.tables it.at it.table sound it.has in
      let own : All (λ c. IsBuilt tells pages c.content.schema c.content.rows c.content) it.table.chunks =
      All-weaker (λ c. IsBuilt tells pages it.table.schema c.content.rows c.content) (λ c. IsBuilt tells pages c.content.schema c.content.rows c.content)
      (λ c b. subst (λ schema. IsBuilt tells pages schema c.content.rows c.content) (sym b.recorded.schema_is) b) it.table.chunks built in
      subst (TableStands tells pages) (sym (get_or_from_slice_get taken.view.tables k (held_table it.table) d stands))
      (All-map (λ c. IsBuilt tells pages c.view.schema c.view.rows c.view) held_chunk it.table.chunks own)

  -- each has few chunks
  pub view_short : IsKept held → IsTaken held names taken → All (λ t. length t.chunks ≤ 1024) taken.view.tables
  view_short kept is k d below =
      let name = element names k (subst (λ n. k < n) is.count below) in
      let it = stands_named held.database name.0 (recursion_stands (λ name. is_none (table_number held.database name) ≡ false) names k name.0 (all_stand held.database names is.all) name.1) in
      let stands : slice_get taken.view.tables k ≡ Some (held_table it.table) = is.each k name.0 it.table name.1 (named_is held.database name.0 it.at it.table it.number it.has) in
      let few : length it.table.chunks ≤ 1024 = all_stands (λ t. length t.chunks ≤ 1024) held.database.tables it.at it.table kept.chunks_few it.has in
      subst (λ t. length t.chunks ≤ 1024) (sym (get_or_from_slice_get taken.view.tables k (held_table it.table) d stands))
      (subst (λ n. n ≤ 1024) (sym (length-map it.table.chunks (held_chunk {C = Viewed File}))) few)

-- ---- a select over a catalogue

-- the names of places
abbrev pub names_of : List PlaceAst → List (List ℕ)
names_of places = map (λ p. p.table.name) places

module _ {File : Type 0} (held : Holding (Viewed File)) where
  -- the first name without a table is that of the first such place
  unnamed_is : (places : List PlaceAst) → first_unnamed held.database (names_of (take 4 places)) ≡ first_absent (database_of held) places
  unnamed_is places =
      position-map (λ (p : PlaceAst). p.table.name) (λ name. is_none (table_number held.database name)) (take 4 places)
      ∙ (λ j. position (λ (p : PlaceAst). is_none (sym (table_number-map (λ (v : Viewed File). v.rows) held.database p.table.name) j)) (take 4 places))

  head_row : (name : List ℕ) → head_named (database_of held) name ≡ head_named held.database name
  head_row name =
      ap (option_and_then (λ at. option_map (head_of at) (slice_get (database_of held).tables at))) (table_number-map (λ (v : Viewed File). v.rows) held.database name)
      ∙ by (table_number held.database name) where
        found : (at : ℕ) (o : Option (Table (Viewed File))) → option_map (head_of at) (option_map row_table o) ≡ option_map (head_of at) o
        found at None = refl
        found at (Some t) = refl

        by : (o : Option ℕ) → option_and_then (λ at. option_map (head_of at) (slice_get (database_of held).tables at)) o ≡ option_and_then (λ at. option_map (head_of at) (slice_get held.database.tables at)) o
        by None = refl
        by (Some at) = ap (option_map (head_of at)) (slice_get-map row_table held.database.tables at) ∙ found at (slice_get held.database.tables at)

  -- the heads of names are those of their places
  heads_row : (places : List PlaceAst) → heads_named held.database (names_of places) ≡ heads_of (database_of held) places
  heads_row [] = refl
  heads_row (p ∷ ps) = (λ j. cons_option (sym (head_row p.table.name) j) (heads_row ps j))

  -- where each of its first places has a table and nothing stands against them, these are the heads of all
  pub taken_heads : (x : SelectAst) (names : List (List ℕ)) (taken : Taken (Viewed File)) (absent : Option Refusal) → names ≡ names_of (take 4 x.places) → IsTaken held names taken → absent ≡ places_refusal x.places None → absent ≡ None
      → HasHeads x (database_of held) taken.heads
  taken_heads x names taken absent named is tested none =
      let first : first_absent (database_of held) x.places ≡ None = sym (unnamed_is x.places) ∙ ap (first_unnamed held.database) (sym named) ∙ is.all in
      let allowed : places_refusal x.places (first_absent (database_of held) x.places) ≡ None = ap (places_refusal x.places) first ∙ sym tested ∙ none in
      let few = (are_allowed (database_of held) x.places allowed).few in record {
        allowed = allowed;
        are = is.heads ∙ ap (heads_named held.database) (named ∙ ap names_of (take_all 4 x.places few)) ∙ heads_row x.places;
      }

  -- a place that is refused refuses the select
  pub refused_taken : (x : SelectAst) (names : List (List ℕ)) (taken : Taken (Viewed File)) (cause : Refusal) → names ≡ names_of (take 4 x.places) → IsTaken held names taken → places_refusal x.places None ≡ Some cause
      → select_refusal x (database_of held) ≡ Some cause
  refused_taken x names taken cause named is refused =
      refused_place x (database_of held) None cause (sym is.all ∙ ap (first_unnamed held.database) named ∙ unnamed_is x.places) refused

  -- so does one without a table
  pub refused_absent : (x : SelectAst) (names : List (List ℕ)) (place : ℕ) (fault : BindFault) → names ≡ names_of (take 4 x.places) → first_unnamed held.database names ≡ Some place → IsFirstRefusal (places_refusal x.places (Some place)) fault
      → IsFirstRefusal (select_refusal x (database_of held)) fault
  refused_absent x names place (bind_fault.Refused cause) named absent refused =
      refused_place x (database_of held) (Some place) cause (sym absent ∙ ap (first_unnamed held.database) named ∙ unnamed_is x.places) refused
  refused_absent x names place bind_fault.Memory named absent refused = tt
