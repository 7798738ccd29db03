-- A reference that isn't refused names a column that stands.
use Rattle.std.proofs.Common.{◌≡◌, ℕ, suc, ◌+◌, ◌<◌, Bool, true, List, [], ◌∷◌, length, get_or, Option, Some, None, refl, ap, subst, ◌∙◌, arith}
use Rattle.std.specs.Prelude.{Result, Ok, Err, is_some, slice_get}
use Rattle.std.specs.List.{list_all, cons_option, position}
use Rattle.std.specs.Option.{option_map, option_and_then}
use Rattle.std.proofs.lemmas.Bool.{and_from, and_parts}
use Rattle.std.proofs.lemmas.List.Folds.{list_all-append}
use Rattle.std.proofs.lemmas.List.Quantifiers.{position-Some}
use Rattle.std.proofs.lemmas.Option.{slice_get-map, slice_get-get_or, option_and_then_some}
use Rattle.hv_row.specs.declared.schema.Column.{Column}
use Rattle.hv_row.specs.Schema.{same_name}
use Rattle.hv_model.specs.declared.tree.PlaceAst.{PlaceAst}
use Rattle.hv_model.specs.declared.tree.RefAst.{RefAst}
use Rattle.hv_model.specs.declared.catalogue.TableHead.{TableHead}
use Rattle.hv_model.specs.declared.query.ColRef.{ColRef}
use Rattle.hv_model.specs.declared.reply.Refusal.{Refusal}
use Rattle.hv_model.specs.Scope.{column_number, column_at, columns_named, the_one, or_absent, place_number, column_in, meant, resolved, columns_from, columns_of_places, all_columns}
use Rattle.hv_model.specs.Fits.{is_column}
use Rattle.std.specs.Result.{result_err}
use Rattle.hv_model.specs.Bound.{schemas_of, found, ref_of, ref_refusal}

-- ---- lists

-- there is an element at each number below the length
pub element : {X : Type 0} (xs : List X) (i : ℕ) → i < length xs → (x : X) × (slice_get xs i ≡ Some x)
element [] i lt = absurd (omega arith)
element (x ∷ xs) i lt = (get_or (x ∷ xs) i x, slice_get-get_or (x ∷ xs) i x lt)

-- the first element that passes stands below the length
pub position_within : {X : Type 0} (p : X → Bool) (xs : List X) (k : ℕ) → position p xs ≡ Some k → k < length xs
position_within p [] k e = absurd cc
position_within p (x ∷ xs) k e = (position-Some p (x ∷ xs) k x e).0

-- ---- columns of tables from the `at`-th on

-- these tables are those that stand from the `at`-th on
abbrev Stand : List TableHead → ℕ → List TableHead → Type 0
Stand heads at hs = (i : ℕ) (h : TableHead) → slice_get hs i ≡ Some h → slice_get heads (at + i) ≡ Some h

stand_all : (heads : List TableHead) → Stand heads 0 heads
stand_all heads i h is = subst (λ (n : ℕ). slice_get heads n ≡ Some h) (omega arith) is

stand_on : (heads : List TableHead) (at : ℕ) (h : TableHead) (hs : List TableHead) → Stand heads at (h ∷ hs) → Stand heads (at + 1) hs
stand_on heads at h hs stand i g is = subst (λ (n : ℕ). slice_get heads n ≡ Some g) (omega arith) (stand (suc i) g is)

stand_here : (heads : List TableHead) (at : ℕ) (h : TableHead) (hs : List TableHead) → Stand heads at (h ∷ hs) → slice_get heads at ≡ Some h
stand_here heads at h hs stand = subst (λ (n : ℕ). slice_get heads n ≡ Some h) (omega arith) (stand 0 h refl)

column_stands : (heads : List TableHead) (place column : ℕ) (h : TableHead) → slice_get heads place ≡ Some h → column < length h.schema → is_column (schemas_of heads) (column_at place column) ≡ true
column_stands heads place column h is lt =
    let c = element h.schema column lt in
    let schema : slice_get (schemas_of heads) place ≡ Some h.schema = slice_get-map (λ h. h.schema) heads place ∙ ap (option_map (λ h. h.schema)) is in
    ap (λ (o : Option (List Column)). is_some (option_and_then (λ columns. option_map (λ c. c.kind) (slice_get columns column)) o)) schema
    ∙ ap (λ (o : Option Column). is_some (option_map (λ c. c.kind) o)) c.1

-- ---- columns of a name

named_here : (S : List (List Column)) (at : ℕ) (o : Option ℕ) (rest : List ColRef) → ((k : ℕ) → o ≡ Some k → is_column S (column_at at k) ≡ true) → list_all (is_column S) rest ≡ true → list_all (is_column S) (cons_option (option_map (column_at at) o) rest) ≡ true
named_here S at None rest here all = all
named_here S at (Some k) rest here all = and_from (is_column S (column_at at k)) (list_all (is_column S) rest) (here k refl) all

number_within : (columns : List Column) (name : List ℕ) (k : ℕ) → column_number columns name ≡ Some k → k < length columns
number_within columns name k e = position_within (λ c. same_name c.name name) columns k e

named_stand : (heads : List TableHead) (name : List ℕ) (at : ℕ) (hs : List TableHead) → Stand heads at hs → list_all (is_column (schemas_of heads)) (columns_named at hs name) ≡ true
named_stand heads name at [] stand = refl
named_stand heads name at (h ∷ hs) stand =
    named_here (schemas_of heads) at (column_number h.schema name) (columns_named (at + 1) hs name)
    (λ k is. column_stands heads at k h (stand_here heads at h hs stand) (number_within h.schema name k is))
    (named_stand heads name (at + 1) hs (stand_on heads at h hs stand))

one_stands : (test : ColRef → Bool) (cs : List ColRef) (byte : ℕ) (c : ColRef) → list_all test cs ≡ true → the_one cs byte ≡ Ok c → test c ≡ true
one_stands test [] byte c all e = absurd cc
one_stands test (d ∷ []) byte c all e = let same : d ≡ c = cc in subst (λ (x : ColRef). test x ≡ true) same (and_parts (test d) true all).0
one_stands test (d ∷ d' ∷ cs) byte c all e = absurd cc

-- ---- references

present : (o : Option ColRef) (byte : ℕ) (c : ColRef) → or_absent o byte ≡ Ok c → o ≡ Some c
present None byte c e = absurd cc
present (Some d) byte c e = cc

mapped : (place : ℕ) (o : Option ℕ) (c : ColRef) → option_map (column_at place) o ≡ Some c → (k : ℕ) × (o ≡ Some k) × (column_at place k ≡ c)
mapped place None c e = absurd cc
mapped place (Some k) c e = (k, refl, cc)

in_place : (heads : List TableHead) (name : List ℕ) (place : ℕ) (c : ColRef) → column_in heads name place ≡ Some c → is_column (schemas_of heads) c ≡ true
in_place heads name place c e =
    option_and_then_some (λ h. option_map (column_at place) (column_number h.schema name)) (slice_get heads place) c e
    (λ h is found.
    let m = mapped place (column_number h.schema name) c found in
    subst (λ (x : ColRef). is_column (schemas_of heads) x ≡ true) m.2 (column_stands heads place m.0 h is (number_within h.schema name m.0 m.1)))

meant_stands : (places : List PlaceAst) (heads : List TableHead) (alias : Option (List ℕ)) (name : List ℕ) (byte : ℕ) (c : ColRef) → meant places heads alias name byte ≡ Ok c → is_column (schemas_of heads) c ≡ true
meant_stands places heads None name byte c e =
    one_stands (is_column (schemas_of heads)) (columns_named 0 heads name) byte c (named_stand heads name 0 heads (stand_all heads)) e
meant_stands places heads (Some alias) name byte c e =
    option_and_then_some (column_in heads name) (place_number places alias) c (present (option_and_then (column_in heads name) (place_number places alias)) byte c e)
    (λ place is found. in_place heads name place c found)

found_stands : (test : ColRef → Bool) (o : Result ColRef Refusal) → ((c : ColRef) → o ≡ Ok c → test c ≡ true) → result_err o ≡ None → test (found o) ≡ true
found_stands test (Ok c) each none = each c refl
found_stands test (Err r) each none = absurd cc

-- a reference that isn't refused names a column there
pub ref_stands : (places : List PlaceAst) (heads : List TableHead) (r : RefAst) → ref_refusal places heads r ≡ None → is_column (schemas_of heads) (ref_of places heads r) ≡ true
ref_stands places heads r none =
    found_stands (is_column (schemas_of heads)) (resolved places heads r) (λ c is. meant_stands places heads r.alias r.column r.byte c is) none

-- ---- all columns

from_stand : (test : ColRef → Bool) (place at : ℕ) (cs : List Column) → ((k : ℕ) → k < at + length cs → test (column_at place k) ≡ true) → list_all test (columns_from place at cs) ≡ true
from_stand test place at [] each = refl
from_stand test place at (c ∷ cs) each =
    and_from (test (column_at place at)) (list_all test (columns_from place (at + 1) cs)) (each at (omega arith))
    (from_stand test place (at + 1) cs (λ k lt. each k (omega arith)))

places_stand : (heads : List TableHead) (at : ℕ) (hs : List TableHead) → Stand heads at hs → list_all (is_column (schemas_of heads)) (columns_of_places at hs) ≡ true
places_stand heads at [] stand = refl
places_stand heads at (h ∷ hs) stand =
    let S = schemas_of heads in
    list_all-append (is_column S) (columns_from at 0 h.schema) (columns_of_places (at + 1) hs)
    ∙ and_from (list_all (is_column S) (columns_from at 0 h.schema)) (list_all (is_column S) (columns_of_places (at + 1) hs))
    (from_stand (is_column S) at 0 h.schema (λ k lt. column_stands heads at k h (stand_here heads at h hs stand) (omega arith)))
    (places_stand heads (at + 1) hs (stand_on heads at h hs stand))

-- the columns of all places stand
pub columns_stand : (heads : List TableHead) → list_all (is_column (schemas_of heads)) (all_columns heads) ≡ true
columns_stand heads = places_stand heads 0 heads (stand_all heads)
