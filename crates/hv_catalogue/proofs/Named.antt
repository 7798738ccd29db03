-- The tables of names, each of which stands, as a query holds them.
use Rattle.std.proofs.Common.{◌≡◌, ℕ, zero, suc, ◌<◌, Bool, true, false, not, cond, List, [], ◌∷◌, ◌++◌, length, Option, Some, None, is_none, refl, ap, subst, ◌∙◌, arith, ltb-true}
use Rattle.std.specs.Prelude.{slice_get, nat_lt}
use Rattle.std.specs.List.{AllByRecursion, cons_option, prefix_len}
use Rattle.std.specs.Option.{option_map, option_and_then}
use Rattle.std.proofs.lemmas.Option.{same_Some}
use Rattle.hv_row.specs.Schema.{same_name}
use Rattle.hv_model.specs.declared.catalogue.Table.{Table}
use Rattle.hv_model.specs.declared.catalogue.TableHead.{TableHead}
use Rattle.hv_model.specs.declared.catalogue.Database.{Database}
use Rattle.hv_model.specs.Database.{table_number}
use Rattle.hv_model.specs.Command.{table_named}
use Rattle.hv_model.specs.Selected.{head_of, head_named}
use Rattle.hv_view.specs.declared.held.HeldTable.{HeldTable}
use Rattle.hv_catalogue.specs.Holding.{heads_named, held_named, held_table, first_unnamed}
use Rattle.hv_catalogue.proofs.Points.{all_fail}

there : {A : Type 0} (o : Option A) → is_none o ≡ false → (x : A) × (o ≡ Some x)
there None none = absurd cc
there (Some x) none = (x, refl)

-- an element stands at each place below the length
pub element : {A : Type 0} (xs : List A) (place : ℕ) → place < length xs → (x : A) × (slice_get xs place ≡ Some x)
element [] place below = absurd (omega arith)
element (x ∷ xs) zero below = (x, refl)
element (x ∷ xs) (suc place) below = element xs place (omega arith)

first_below : (test : Bool) (n count place : ℕ) → nat_lt n count ≡ test → cond test (Some n) None ≡ Some place → place < count
first_below true n count place lt is = subst (λ (m : ℕ). m < count) (same_Some n place is) (ltb-true n count lt)
first_below false n count place lt is = absurd cc

module _ {C : Type 0} (s : Database C) where
  -- a table of a name that has a number
  pub found_table : (name : List ℕ) → is_none (table_number s name) ≡ false → (t : Table C) × (table_named s name ≡ Some t)
  found_table name stands =
      let number = there (table_number s name) stands in
      let n = prefix_len (λ t. not (same_name t.name name)) s.tables in
      let table = element s.tables number.0 (first_below (nat_lt n (length s.tables)) n (length s.tables) number.0 refl number.1) in
      (table.0, ap (λ (o : Option ℕ). option_and_then (λ at. slice_get s.tables at) o) number.1 ∙ table.1)

  -- the heads of some names and then of others
  pub heads_append : (names more : List (List ℕ)) → heads_named s (names ++ more) ≡ heads_named s names ++ heads_named s more
  heads_append [] more = refl
  heads_append (name ∷ names) more = before (head_named s name) (heads_append names more)
    where
      before : (o : Option TableHead) → heads_named s (names ++ more) ≡ heads_named s names ++ heads_named s more
          → cons_option o (heads_named s (names ++ more)) ≡ cons_option o (heads_named s names) ++ heads_named s more
      before None rest = rest
      before (Some head) rest = ap (λ heads. head ∷ heads) rest

  -- and the tables
  pub held_append : (names more : List (List ℕ)) → held_named s (names ++ more) ≡ held_named s names ++ held_named s more
  held_append [] more = refl
  held_append (name ∷ names) more = before (option_map held_table (table_named s name)) (held_append names more)
    where
      before : (o : Option (HeldTable C)) → held_named s (names ++ more) ≡ held_named s names ++ held_named s more
          → cons_option o (held_named s (names ++ more)) ≡ cons_option o (held_named s names) ++ held_named s more
      before None rest = rest
      before (Some table) rest = ap (λ tables. table ∷ tables) rest

  -- the head of a table, by its number
  pub head_is : (name : List ℕ) (at : ℕ) (t : Table C) → table_number s name ≡ Some at → slice_get s.tables at ≡ Some t → head_named s name ≡ Some (head_of at t)
  head_is name at t number stands =
      ap (λ (o : Option ℕ). option_and_then (λ at. option_map (head_of at) (slice_get s.tables at)) o) number ∙ ap (option_map (head_of at)) stands

  -- nothing of a name of which no table stands
  pub none_named : (name : List ℕ) → table_number s name ≡ None → (heads_named s (name ∷ []) ≡ []) × (held_named s (name ∷ []) ≡ [])
  none_named name none = (
    ap (λ (o : Option ℕ). cons_option (option_and_then (λ at. option_map (head_of at) (slice_get s.tables at)) o) []) none,
    ap (λ (o : Option ℕ). cons_option (option_map held_table (option_and_then (λ at. slice_get s.tables at) o)) []) none,
  )

  -- what there is of the name of a table that stands
  pub one_named : (name : List ℕ) (at : ℕ) (t : Table C) → table_number s name ≡ Some at → slice_get s.tables at ≡ Some t
      → (heads_named s (name ∷ []) ≡ head_of at t ∷ []) × (held_named s (name ∷ []) ≡ held_table t ∷ [])
  one_named name at t number stands = (
    ap (λ (o : Option TableHead). cons_option o []) (head_is name at t number stands),
    ap (λ (o : Option (Table C)). cons_option (option_map held_table o) []) (ap (λ (o : Option ℕ). option_and_then (λ at. slice_get s.tables at) o) number ∙ stands),
  )

  -- each name that was asked for has its table at its place
  pub held_each : (names : List (List ℕ)) → AllByRecursion (λ name. is_none (table_number s name) ≡ false) names → (place : ℕ) (name : List ℕ) (t : Table C) → slice_get names place ≡ Some name → table_named s name ≡ Some t → slice_get (held_named s names) place ≡ Some (held_table t)
  held_each [] all place name t at is = absurd cc
  held_each (n ∷ names) all zero name t at is =
      let same : n ≡ name = same_Some n name at in
      ap (λ (other : List ℕ). slice_get (cons_option (option_map held_table (table_named s other)) (held_named s names)) 0) same
      ∙ ap (λ (o : Option (Table C)). slice_get (cons_option (option_map held_table o) (held_named s names)) 0) is
  held_each (n ∷ names) all (suc place) name t at is =
      let here = found_table n all.0 in
      ap (λ (o : Option (Table C)). slice_get (cons_option (option_map held_table o) (held_named s names)) (suc place)) here.1
      ∙ held_each names all.1 place name t at is

  pub held_count : (names : List (List ℕ)) → AllByRecursion (λ name. is_none (table_number s name) ≡ false) names → length (held_named s names) ≡ length names
  held_count [] all = refl
  held_count (n ∷ names) all =
      let here = found_table n all.0 in
      ap (λ (o : Option (Table C)). length (cons_option (option_map held_table o) (held_named s names))) here.1 ∙ ap suc (held_count names all.1)

  -- none is unnamed: each stands
  pub all_stand : (names : List (List ℕ)) → first_unnamed s names ≡ None → AllByRecursion (λ name. is_none (table_number s name) ≡ false) names
  all_stand names none = all_fail (λ name. is_none (table_number s name)) names none
