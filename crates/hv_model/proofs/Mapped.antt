-- What a chunk carries decides nothing of a step.
use Rattle.std.proofs.Common.{◌≡◌, ℕ, ◌+◌, Bool, true, false, not, cond, ◌||◌, ◌==◌, List, [], ◌∷◌, ◌++◌, length, map, filter, Option, Some, None, Result, Ok, Err, refl, sym, ap, ◌∙◌}
use Rattle.std.specs.Prelude.{position, slice_get, slice_set, nat_lt, nat_le, is_some}
use Rattle.std.specs.Bool.{then_some}
use Rattle.std.specs.List.{list_any, prefix_len}
use Rattle.std.specs.Option.{option_map}
use Rattle.std.specs.Result.{result_map_both}
use Rattle.std.proofs.lemmas.List.{length-map, map-append, map-set}
use Rattle.std.proofs.lemmas.Option.{slice_get-map}
use Rattle.hv_row.specs.declared.schema.Column.{Column}
use Rattle.hv_row.specs.Schema.{same_name}
use Rattle.hv_model.specs.declared.catalogue.Chunk.{Chunk}
use Rattle.hv_model.specs.declared.catalogue.Table.{Table}
use Rattle.hv_model.specs.declared.catalogue.Database.{Database}
use Rattle.hv_model.specs.declared.catalogue.Command.{Command}
use Rattle.hv_model.specs.declared.catalogue.Command.TheVariants.{Create, Import, Purge}
use Rattle.hv_model.specs.declared.catalogue.StepRefusal.{StepRefusal}
use Rattle.hv_model.specs.declared.catalogue.StepRefusal.TheVariants.{TableExists, TooManyTables, NoTable, TooManyChunks, NoChunk}
use Rattle.hv_model.specs.Causes.{first_of, given_unless}
use Rattle.hv_model.specs.Database.{most_tables, most_chunks, table_number, has_chunk, with_table, with_last_chunk, without_chunk, with_chunk, with_purged, full, create_causes, import_causes, purge_causes, on_found, on_place, on_table, step, map_chunk, map_table, map_database, map_command}
use Rattle.hv_model.specs.Command.{told_of}

-- a test of the images is a test of the elements
pub prefix_len-map : {X Y : Type 0} (g : X → Y) (test : Y → Bool) (xs : List X) → prefix_len test (map g xs) ≡ prefix_len (λ x. test (g x)) xs
prefix_len-map g test [] = refl
prefix_len-map g test (x ∷ xs) = ap (λ n. cond (test (g x)) (1 + n) 0) (prefix_len-map g test xs)

pub position-map : {X Y : Type 0} (g : X → Y) (test : Y → Bool) (xs : List X) → position test (map g xs) ≡ position (λ x. test (g x)) xs
position-map g test xs = rw (prefix_len-map g (λ y. not (test y)) xs) (rw (length-map xs g) refl)

pub list_any-map : {X Y : Type 0} (g : X → Y) (test : Y → Bool) (xs : List X) → list_any test (map g xs) ≡ list_any (λ x. test (g x)) xs
list_any-map g test [] = refl
list_any-map g test (x ∷ xs) = ap (λ b. test (g x) || b) (list_any-map g test xs)

pub filter-map : {X Y : Type 0} (g : X → Y) (test : Y → Bool) (xs : List X) → filter test (map g xs) ≡ map g (filter (λ x. test (g x)) xs)
filter-map g test [] = refl
filter-map {X} {Y} g test (x ∷ xs) = by (test (g x)) (filter-map g test xs)
  where
    by : (b : Bool) → filter test (map g xs) ≡ map g (filter (λ x. test (g x)) xs) → cond b (g x ∷ filter test (map g xs)) (filter test (map g xs)) ≡ map g (cond b (x ∷ filter (λ x. test (g x)) xs) (filter (λ x. test (g x)) xs))
    by true h = ap (λ ys. g x ∷ ys) h
    by false h = h

-- what is given where nothing stands against it, changed
given_unless-map : {A B Cause : Type 0} (g : A → B) (point : Option Cause) (a : A) → given_unless point (g a) ≡ result_map_both g (λ cause. cause) (given_unless point a)
given_unless-map g None a = refl
given_unless-map g (Some cause) a = refl

module _ {C D : Type 0} (f : C → D) where
  pub table_number-map : (s : Database C) (name : List ℕ) → table_number (map_database f s) name ≡ table_number s name
  table_number-map s name = position-map (map_table f) (λ t. same_name t.name name) s.tables

  create_causes-map : (name : List ℕ) (s : Database C) → create_causes name (map_database f s) ≡ create_causes name s
  create_causes-map name s = rw (table_number-map s name) (rw (length-map s.tables (map_table f)) refl)

  import_causes-map : (t : Table C) (s : Database C) → import_causes (map_table f t) (map_database f s) ≡ import_causes t s
  import_causes-map t s = rw (length-map t.chunks (map_chunk f)) refl

  purge_causes-map : (t : Table C) (number : ℕ) (s : Database C) → purge_causes (map_table f t) number (map_database f s) ≡ purge_causes t number s
  purge_causes-map t number s = rw (list_any-map (map_chunk f) (λ c. c.number == number) t.chunks) refl

  with_table-map : (name : List ℕ) (schema : List Column) (s : Database C) → with_table name schema (map_database f s) ≡ map_database f (with_table name schema s)
  with_table-map name schema s = rw (map-append (map_table f) s.tables ((record { name = name; schema = schema; chunks = [] }) ∷ [])) refl

  with_last_chunk-map : (t : Table C) (number : ℕ) (content : C) → with_last_chunk (map_table f t) number (f content) ≡ map_table f (with_last_chunk t number content)
  with_last_chunk-map t number content = rw (map-append (map_chunk f) t.chunks ((record { number = number; content = content }) ∷ [])) refl

  without_chunk-map : (t : Table C) (number : ℕ) → without_chunk (map_table f t) number ≡ map_table f (without_chunk t number)
  without_chunk-map t number = rw (filter-map (map_chunk f) (λ c. not (c.number == number)) t.chunks) refl

  with_chunk-map : (at : ℕ) (t : Table C) (content : C) (s : Database C) → with_chunk at (map_table f t) (f content) (map_database f s) ≡ map_database f (with_chunk at t content s)
  with_chunk-map at t content s = rw (with_last_chunk-map t (s.made + 1) content) (rw (map-set (map_table f) s.tables at (with_last_chunk t (s.made + 1) content)) refl)

  with_purged-map : (at : ℕ) (t : Table C) (number : ℕ) (s : Database C) → with_purged at (map_table f t) number (map_database f s) ≡ map_database f (with_purged at t number s)
  with_purged-map at t number s = rw (without_chunk-map t number) (rw (map-set (map_table f) s.tables at (without_chunk t number)) refl)

  -- a change of a table that the content doesn't decide
  Follows : (ℕ → Table C → Result (Database C) StepRefusal) → (ℕ → Table D → Result (Database D) StepRefusal) → Type 0
  Follows change changed = (at : ℕ) (t : Table C) → changed at (map_table f t) ≡ result_map_both (map_database f) (λ cause. cause) (change at t)

  on_found-map : (change : ℕ → Table C → Result (Database C) StepRefusal) (changed : ℕ → Table D → Result (Database D) StepRefusal) → Follows change changed → (at : ℕ) (found : Option (Table C))
      → on_found changed at (option_map (map_table f) found) ≡ result_map_both (map_database f) (λ cause. cause) (on_found change at found)
  unfolding Follows
  on_found-map change changed follows at None = refl
  on_found-map change changed follows at (Some t) = follows at t

  on_place-map : (change : ℕ → Table C → Result (Database C) StepRefusal) (changed : ℕ → Table D → Result (Database D) StepRefusal) → Follows change changed → (s : Database C) (place : Option ℕ)
      → on_place changed (map_database f s) place ≡ result_map_both (map_database f) (λ cause. cause) (on_place change s place)
  on_place-map change changed follows s None = refl
  on_place-map change changed follows s (Some at) = rw (slice_get-map (map_table f) s.tables at) (on_found-map change changed follows at (slice_get s.tables at))

  on_table-map : (change : ℕ → Table C → Result (Database C) StepRefusal) (changed : ℕ → Table D → Result (Database D) StepRefusal) → Follows change changed → (name : List ℕ) (s : Database C)
      → on_table changed name (map_database f s) ≡ result_map_both (map_database f) (λ cause. cause) (on_table change name s)
  on_table-map change changed follows name s = rw (table_number-map s name) (on_place-map change changed follows s (table_number s name))

  import_follows : (content : C) (s : Database C) → Follows (λ at t. given_unless (first_of (import_causes t s)) (with_chunk at t content s))
      (λ at t. given_unless (first_of (import_causes t (map_database f s))) (with_chunk at t (f content) (map_database f s)))
  unfolding Follows
  import_follows content s at t =
      ap (λ points. given_unless (first_of points) (with_chunk at (map_table f t) (f content) (map_database f s))) (import_causes-map t s)
      ∙ ap (λ after. given_unless (first_of (import_causes t s)) after) (with_chunk-map at t content s)
      ∙ given_unless-map (map_database f) (first_of (import_causes t s)) (with_chunk at t content s)

  purge_follows : (number : ℕ) (s : Database C) → Follows (λ at t. given_unless (first_of (purge_causes t number s)) (with_purged at t number s))
      (λ at t. given_unless (first_of (purge_causes t number (map_database f s))) (with_purged at t number (map_database f s)))
  unfolding Follows
  purge_follows number s at t =
      ap (λ points. given_unless (first_of points) (with_purged at (map_table f t) number (map_database f s))) (purge_causes-map t number s)
      ∙ ap (λ after. given_unless (first_of (purge_causes t number s)) after) (with_purged-map at t number s)
      ∙ given_unless-map (map_database f) (first_of (purge_causes t number s)) (with_purged at t number s)

  -- a step with another content of all chunks
  pub step-map : (s : Database C) (c : Command C) → step (map_database f s) (map_command f c) ≡ result_map_both (map_database f) (λ cause. cause) (step s c)
  step-map s (Create name schema) =
      ap (λ points. given_unless (first_of points) (with_table name schema (map_database f s))) (create_causes-map name s)
      ∙ ap (λ after. given_unless (first_of (create_causes name s)) after) (with_table-map name schema s)
      ∙ given_unless-map (map_database f) (first_of (create_causes name s)) (with_table name schema s)
  step-map s (Import name content) = on_table-map _ _ (import_follows content s) name s
  step-map s (Purge name number) = on_table-map _ _ (purge_follows number s) name s

  -- and what is told of it
  pub told_of-map : (count : C → ℕ) (recount : D → ℕ) → ((content : C) → recount (f content) ≡ count content) → (s : Database C) (c : Command C) → told_of recount (map_database f s) (map_command f c) ≡ told_of count s c
  told_of-map count recount same s (Create name schema) = refl
  told_of-map count recount same s (Import name content) = rw (same content) refl
  told_of-map count recount same s (Purge name number) = refl
