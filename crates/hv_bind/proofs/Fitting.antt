-- A bound query that isn't refused fits the schemas of its places.
use Rattle.std.proofs.Common.{◌≡◌, ℕ, ◌-◌, ◌<◌, nat_le, nat_lt, Bool, true, false, ◌&&◌, cond, List, [], ◌∷◌, length, map, Option, Some, None, refl, sym, ap, subst, ◌∙◌, arith}
use Rattle.std.specs.List.{list_any, list_all, flat_map, position_or_len}
use Rattle.std.specs.Option.{option_or, unwrap_or}
use Rattle.std.proofs.lemmas.Bool.{lt-ltb, ltb-true, and_from, and_parts, or_parts}
use Rattle.std.proofs.lemmas.Bool.Decides.{nat_tests}
use Rattle.std.proofs.lemmas.List.{length-map}
use Rattle.std.proofs.lemmas.List.Folds.{list_all-append, list_all-map}
use Rattle.hv_model.specs.declared.tree.PlaceAst.{PlaceAst}
use Rattle.hv_model.specs.declared.tree.RefAst.{RefAst}
use Rattle.hv_model.specs.declared.tree.ItemAst.{ItemAst}
use Rattle.hv_model.specs.declared.tree.ItemAst.TheVariants as it
use Rattle.hv_model.specs.declared.tree.KeyBy.{KeyBy}
use Rattle.hv_model.specs.declared.tree.KeyBy.TheVariants as by
use Rattle.hv_model.specs.declared.tree.KeyAst.{KeyAst}
use Rattle.hv_model.specs.declared.tree.OperandAst.{OperandAst}
use Rattle.hv_model.specs.declared.tree.Cmp.{Cmp}
use Rattle.hv_model.specs.declared.tree.CondAst.{CondAst, roll-CondAst, map-CondAst}
use Rattle.hv_model.specs.declared.tree.CondAst.TheOpen.{CondAst-F}
use Rattle.hv_model.specs.declared.tree.CondAst.TheFolds.{fold-roll-CondAst, ind-CondAst}
use Rattle.hv_model.specs.declared.tree.SelectAst.{SelectAst}
use Rattle.hv_model.specs.declared.catalogue.TableHead.{TableHead}
use Rattle.hv_model.specs.declared.query.ColRef.{ColRef}
use Rattle.hv_model.specs.declared.query.Operand.{Operand}
use Rattle.hv_model.specs.declared.query.Cond.{Cond}
use Rattle.hv_model.specs.declared.query.Cond.TheVariants as cond
use Rattle.hv_model.specs.declared.query.Cond.TheOpen.{Cond-F}
use Rattle.hv_model.specs.declared.query.Cond.TheFolds.{fold-roll-Cond}
use Rattle.hv_model.specs.declared.query.Item.{Item}
use Rattle.hv_model.specs.declared.query.Item.TheVariants as item
use Rattle.hv_model.specs.declared.query.SortKey.{SortKey}
use Rattle.hv_model.specs.declared.query.BoundQuery.{BoundQuery}
use Rattle.hv_model.specs.declared.reply.Refusal.{Refusal}
use Rattle.hv_model.specs.declared.reply.Refusal.TheVariants.{TypeMismatch, NotGrouped, NoOutput}
use Rattle.hv_row.specs.declared.schema.Column.{Column}
use Rattle.hv_model.specs.Sql.{is_aggregate}
use Rattle.hv_model.specs.Scope.{all_columns}
use Rattle.hv_model.specs.Fits.{kind_of, is_column, operand_kind, same_kind, is_int, fits_step, cond_fits, item_fits, is_grouped_item, is_plain_item, FitsSchemas}
use Rattle.hv_model.specs.Causes.{first_of, unless}
use Rattle.hv_model.specs.Bound.{schemas_of, ref_of, operand_of, cond_step, cond_of, items_of, all_items, is_item, item_number, key_item, key_of, is_any, is_grouped, bound_query, ref_refusal, item_refusal, operand_refusal, test_refusal, refusal_step, cond_refusal, key_refusal, names_refusal, is_among, plain_refusal, grouping_refusal, if_none, order_refusal, bind_refusal}
use Rattle.hv_bind.proofs.Refusing.{none_first}
use Rattle.hv_bind.proofs.Standing.{ref_stands, columns_stand}

-- ---- points of which none stands

passed : (b : Bool) (r : Refusal) → unless b r ≡ None → b ≡ true
passed true r e = refl
passed false r e = absurd cc

where_true : (b : Bool) (point : Option Refusal) → b ≡ true → cond b point None ≡ None → point ≡ None
where_true true point e none = none
where_true false point e none = absurd cc

-- where no member is refused, each has what a member has that isn't
all_pass : {X : Type 0} (point : X → Option Refusal) (test : X → Bool) → ((x : X) → point x ≡ None → test x ≡ true) → (xs : List X) → first_of (map point xs) ≡ None → list_all test xs ≡ true
all_pass point test each [] none = refl
all_pass point test each (x ∷ xs) none =
    let n = none_first (point x) (first_of (map point xs)) none in
    and_from (test x) (list_all test xs) (each x n.0) (all_pass point test each xs n.1)

all_in : {X Y : Type 0} (point : X → Option Refusal) (test : Y → Bool) (f : X → List Y) → ((x : X) → point x ≡ None → list_all test (f x) ≡ true) → (xs : List X) → first_of (map point xs) ≡ None → list_all test (flat_map f xs) ≡ true
all_in point test f each [] none = refl
all_in point test f each (x ∷ xs) none =
    let n = none_first (point x) (first_of (map point xs)) none in
    list_all-append test (f x) (flat_map f xs) ∙ and_from (list_all test (f x)) (list_all test (flat_map f xs)) (each x n.0) (all_in point test f each xs n.1)

-- ---- conditions

fits_always : (S : List (List Column)) → cond_fits S cond.Always ≡ true
fits_always S = ap (cond_fits S) (sym cond.rolls-Always) ∙ fold-roll-Cond Bool (fits_step S) Cond-F.Always

fits_test : (S : List (List Column)) (left : Operand) (how : Cmp) (right : Operand) → cond_fits S (cond.Test left how right) ≡ same_kind (operand_kind S left) (operand_kind S right)
fits_test S left how right = ap (cond_fits S) (sym (cond.rolls-Test left how right)) ∙ fold-roll-Cond Bool (fits_step S) (Cond-F.Test left how right)

fits_all : (S : List (List Column)) (cs : List Cond) → cond_fits S (cond.All cs) ≡ list_all (λ b. b) (map (cond_fits S) cs)
fits_all S cs = ap (cond_fits S) (sym (cond.rolls-All cs)) ∙ fold-roll-Cond Bool (fits_step S) (Cond-F.All cs)

fits_any : (S : List (List Column)) (cs : List Cond) → cond_fits S (cond.Any cs) ≡ list_all (λ b. b) (map (cond_fits S) cs)
fits_any S cs = ap (cond_fits S) (sym (cond.rolls-Any cs)) ∙ fold-roll-Cond Bool (fits_step S) (Cond-F.Any cs)

fits_not : (S : List (List Column)) (c : Cond) → cond_fits S (cond.Not c) ≡ cond_fits S c
fits_not S c = ap (cond_fits S) (sym (cond.rolls-Not c)) ∙ fold-roll-Cond Bool (fits_step S) (Cond-F.Not c)

abbrev Fit : List PlaceAst → List TableHead → CondAst → Type 0
Fit places heads c = cond_refusal places heads c ≡ None → cond_fits (schemas_of heads) (cond_of places heads c) ≡ true

members_fit : (places : List PlaceAst) (heads : List TableHead) (cs : List ((c : CondAst) × Fit places heads c)) → first_of (map (cond_refusal places heads) (map (λ c. c.0) cs)) ≡ None → list_all (λ b. b) (map (cond_fits (schemas_of heads)) (map (cond_of places heads) (map (λ c. c.0) cs))) ≡ true
members_fit places heads [] none = refl
members_fit places heads (c ∷ cs) none =
    let S = schemas_of heads in
    let n = none_first (cond_refusal places heads c.0) (first_of (map (cond_refusal places heads) (map (λ c. c.0) cs))) none in
    and_from (cond_fits S (cond_of places heads c.0)) (list_all (λ b. b) (map (cond_fits S) (map (cond_of places heads) (map (λ c. c.0) cs)))) (c.1 n.0) (members_fit places heads cs n.1)

test_fits : (places : List PlaceAst) (heads : List TableHead) (left right : OperandAst) (byte : ℕ) → test_refusal places heads left right byte ≡ None → same_kind (operand_kind (schemas_of heads) (operand_of places heads left)) (operand_kind (schemas_of heads) (operand_of places heads right)) ≡ true
test_fits places heads left right byte none =
    let alike = same_kind (operand_kind (schemas_of heads) (operand_of places heads left)) (operand_kind (schemas_of heads) (operand_of places heads right)) in
    let n = none_first (operand_refusal places heads left) (option_or (operand_refusal places heads right) (option_or (unless alike (TypeMismatch byte)) None)) none in
    let m = none_first (operand_refusal places heads right) (option_or (unless alike (TypeMismatch byte)) None) n.1 in
    passed alike (TypeMismatch byte) (none_first (unless alike (TypeMismatch byte)) None m.1).0

layer_fits : (places : List PlaceAst) (heads : List TableHead) (y : CondAst-F ((c : CondAst) × Fit places heads c)) → Fit places heads (roll-CondAst (map-CondAst ((c : CondAst) × Fit places heads c) CondAst (λ c. c.0) y))
layer_fits places heads CondAst-F.Always none =
    ap (cond_fits (schemas_of heads)) (fold-roll-CondAst Cond (cond_step places heads) CondAst-F.Always) ∙ fits_always (schemas_of heads)
layer_fits places heads (CondAst-F.Test left how right byte) none =
    ap (cond_fits (schemas_of heads)) (fold-roll-CondAst Cond (cond_step places heads) (CondAst-F.Test left how right byte))
    ∙ fits_test (schemas_of heads) (operand_of places heads left) how (operand_of places heads right)
    ∙ test_fits places heads left right byte (sym (fold-roll-CondAst (Option Refusal) (refusal_step places heads) (CondAst-F.Test left how right byte)) ∙ none)
layer_fits places heads (CondAst-F.All cs) none =
    let all = map (λ c. c.0) cs in
    ap (cond_fits (schemas_of heads)) (fold-roll-CondAst Cond (cond_step places heads) (CondAst-F.All all))
    ∙ fits_all (schemas_of heads) (map (cond_of places heads) all)
    ∙ members_fit places heads cs (sym (fold-roll-CondAst (Option Refusal) (refusal_step places heads) (CondAst-F.All all)) ∙ none)
layer_fits places heads (CondAst-F.Any cs) none =
    let all = map (λ c. c.0) cs in
    ap (cond_fits (schemas_of heads)) (fold-roll-CondAst Cond (cond_step places heads) (CondAst-F.Any all))
    ∙ fits_any (schemas_of heads) (map (cond_of places heads) all)
    ∙ members_fit places heads cs (sym (fold-roll-CondAst (Option Refusal) (refusal_step places heads) (CondAst-F.Any all)) ∙ none)
layer_fits places heads (CondAst-F.Not c) none =
    ap (cond_fits (schemas_of heads)) (fold-roll-CondAst Cond (cond_step places heads) (CondAst-F.Not c.0))
    ∙ fits_not (schemas_of heads) (cond_of places heads c.0)
    ∙ c.1 (sym (fold-roll-CondAst (Option Refusal) (refusal_step places heads) (CondAst-F.Not c.0)) ∙ none)

cond_fit : (places : List PlaceAst) (heads : List TableHead) (c : CondAst) → Fit places heads c
cond_fit places heads = ind-CondAst (Fit places heads) (λ x y is. subst (λ (z : CondAst-F CondAst). Fit places heads (roll-CondAst z)) is (layer_fits places heads y))

-- ---- items

one : (b : Bool) → b ≡ true → (b && true) ≡ true
one b e = and_from b true e refl

items_fit : (places : List PlaceAst) (heads : List TableHead) (x : ItemAst) → item_refusal places heads x ≡ None → list_all (item_fits (schemas_of heads)) (items_of places heads x) ≡ true
items_fit places heads (it.Star byte) none = list_all-map (item_fits (schemas_of heads)) item.Col (all_columns heads) ∙ columns_stand heads
items_fit places heads (it.Col r) none = one (is_column (schemas_of heads) (ref_of places heads r)) (ref_stands places heads r none)
items_fit places heads it.Count none = refl
items_fit places heads (it.CountOf r) none = one (is_column (schemas_of heads) (ref_of places heads r)) (ref_stands places heads r none)
items_fit places heads (it.Sum r) none =
    let int = is_int (kind_of (schemas_of heads) (ref_of places heads r)) in
    one int (passed int (TypeMismatch r.byte) (none_first (ref_refusal places heads r) (unless int (TypeMismatch r.byte)) none).1)
items_fit places heads (it.Least r) none = one (is_column (schemas_of heads) (ref_of places heads r)) (ref_stands places heads r none)
items_fit places heads (it.Greatest r) none = one (is_column (schemas_of heads) (ref_of places heads r)) (ref_stands places heads r none)

-- an item of a grouped select that isn't refused is an aggregate or a group column
items_grouped : (places : List PlaceAst) (heads : List TableHead) (groups : List ColRef) (x : ItemAst) → plain_refusal places heads groups x ≡ None → list_all (is_grouped_item groups) (items_of places heads x) ≡ true
items_grouped places heads groups (it.Star byte) none =
    list_all-map (is_grouped_item groups) item.Col (all_columns heads) ∙ passed (list_all (is_among groups) (all_columns heads)) (NotGrouped byte) none
items_grouped places heads groups (it.Col r) none =
    one (is_among groups (ref_of places heads r)) (passed (is_among groups (ref_of places heads r)) (NotGrouped r.byte) none)
items_grouped places heads groups it.Count none = refl
items_grouped places heads groups (it.CountOf r) none = refl
items_grouped places heads groups (it.Sum r) none = refl
items_grouped places heads groups (it.Least r) none = refl
items_grouped places heads groups (it.Greatest r) none = refl

plain_all : (cs : List ColRef) → list_all is_plain_item (map item.Col cs) ≡ true
plain_all [] = refl
plain_all (c ∷ cs) = plain_all cs

items_plain : (places : List PlaceAst) (heads : List TableHead) (x : ItemAst) → is_aggregate x ≡ false → list_all is_plain_item (items_of places heads x) ≡ true
items_plain places heads (it.Star byte) plain = plain_all (all_columns heads)
items_plain places heads (it.Col r) plain = refl
items_plain places heads it.Count plain = absurd cc
items_plain places heads (it.CountOf r) plain = absurd cc
items_plain places heads (it.Sum r) plain = absurd cc
items_plain places heads (it.Least r) plain = absurd cc
items_plain places heads (it.Greatest r) plain = absurd cc

all_plain : (places : List PlaceAst) (heads : List TableHead) (xs : List ItemAst) → list_any is_aggregate xs ≡ false → list_all is_plain_item (all_items places heads xs) ≡ true
all_plain places heads [] plain = refl
all_plain places heads (x ∷ xs) plain =
    let n = or_parts (is_aggregate x) (list_any is_aggregate xs) plain in
    list_all-append is_plain_item (items_of places heads x) (all_items places heads xs)
    ∙ and_from (list_all is_plain_item (items_of places heads x)) (list_all is_plain_item (all_items places heads xs)) (items_plain places heads x n.0) (all_plain places heads xs n.1)

-- ---- order keys

within_if : (b : Bool) (m count : ℕ) (r : Refusal) → (b ≡ true → m < count) → if_none (cond b (Some m) None) r ≡ None → nat_lt (unwrap_or (cond b (Some m) None) 0) count ≡ true
within_if true m count r within none = lt-ltb m count (within refl)
within_if false m count r within none = absurd cc

written_within : (n count : ℕ) (r : Refusal) → if_none (cond (nat_le 1 n && nat_le n count) (Some (n - 1)) None) r ≡ None → nat_lt (unwrap_or (cond (nat_le 1 n && nat_le n count) (Some (n - 1)) None) 0) count ≡ true
written_within n count r none =
    within_if (nat_le 1 n && nat_le n count) (n - 1) count r (λ both. let p = and_parts (nat_le 1 n) (nat_le n count) both in grind (arith, nat_tests)) none

found_within : (items : List Item) (ref : ColRef) (r : Refusal) → if_none (item_number items ref) r ≡ None → nat_lt (unwrap_or (item_number items ref) 0) (length items) ≡ true
found_within items ref r none =
    let at = position_or_len (is_item ref) items in
    within_if (nat_lt at (length items)) at (length items) r (λ lt. ltb-true at (length items) lt) none

key_within : (places : List PlaceAst) (heads : List TableHead) (items : List Item) (k : KeyBy) (r : Refusal) → if_none (key_item places heads items k) r ≡ None → nat_lt (unwrap_or (key_item places heads items k) 0) (length items) ≡ true
key_within places heads items (by.Number n) r none = written_within n (length items) r none
key_within places heads items (by.Col ref) r none = found_within items (ref_of places heads ref) r none

-- ---- the query

-- a query whose parts are those of the bound query
pub query_is : (x : SelectAst) (heads : List TableHead) (P : List PlaceAst) (I : List ItemAst) (G : List RefAst) (O : List KeyAst) (named : List Item) (numbers : List ℕ) (c : Cond) (items : List Item) (grouped : Bool) (groups : List ColRef) (order : List SortKey)
    → P ≡ x.places → I ≡ x.items → G ≡ x.groups → O ≡ x.order → named ≡ items
    → numbers ≡ map (λ h. h.number) heads → c ≡ cond_of P heads x.cond → items ≡ all_items P heads I → grouped ≡ is_grouped x → groups ≡ map (ref_of P heads) G → order ≡ map (key_of P heads named) O
    → ◌≡◌ {A = BoundQuery} (record { places = numbers; cond = c; items = items; grouped = grouped; groups = groups; order = order; limit = x.limit }) (bound_query x heads)
query_is x heads P I G O named numbers c items grouped groups order p i g o n ns cs is gr gs os = cc

pub query_fits : (x : SelectAst) (heads : List TableHead) → length heads ≡ length x.places → (is_grouped x ≡ true → length x.places ≡ 1) → bind_refusal x heads ≡ None → FitsSchemas (schemas_of heads) (bound_query x heads)
query_fits x heads len alone none =
    let P = x.places in
    let S = schemas_of heads in
    let items = all_items P heads x.items in
    let columns = map (ref_of P heads) x.groups in
    let a = none_first (names_refusal x heads) (option_or (grouping_refusal x heads) (option_or (order_refusal x heads) None)) none in
    let b = none_first (grouping_refusal x heads) (option_or (order_refusal x heads) None) a.1 in
    let c = none_first (order_refusal x heads) None b.1 in
    let n1 = none_first (first_of (map (item_refusal P heads) x.items)) (first_of (cond_refusal P heads x.cond ∷ first_of (map (ref_refusal P heads) x.groups) ∷ first_of (map (λ k. key_refusal P heads k.by) x.order) ∷ [])) a.0 in
    let n2 = none_first (cond_refusal P heads x.cond) (first_of (first_of (map (ref_refusal P heads) x.groups) ∷ first_of (map (λ k. key_refusal P heads k.by) x.order) ∷ [])) n1.1 in
    let n3 = none_first (first_of (map (ref_refusal P heads) x.groups)) (first_of (first_of (map (λ k. key_refusal P heads k.by) x.order) ∷ [])) n2.1 in
    record {
      places = length-map heads (λ h. h.number) ∙ sym (length-map heads (λ h. h.schema));
      cond = cond_fit P heads x.cond n2.0;
      items = all_in (item_refusal P heads) (item_fits S) (items_of P heads) (items_fit P heads) x.items n1.0;
      groups = list_all-map (is_column S) (ref_of P heads) x.groups ∙ all_pass (ref_refusal P heads) (λ r. is_column S (ref_of P heads r)) (ref_stands P heads) x.groups n3.0;
      order = list_all-map (λ key. nat_lt key.item (length items)) (key_of P heads items) x.order
          ∙ all_pass (λ k. if_none (key_item P heads items k.by) (NoOutput k.byte)) (λ k. nat_lt (unwrap_or (key_item P heads items k.by) 0) (length items)) (λ k. key_within P heads items k.by (NoOutput k.byte)) x.order c.0;
      one_place = λ grouped. length-map heads (λ h. h.schema) ∙ len ∙ alone grouped;
      grouped = λ grouped. all_in (plain_refusal P heads columns) (is_grouped_item columns) (items_of P heads) (items_grouped P heads columns) x.items (where_true (is_grouped x) (first_of (map (plain_refusal P heads columns) x.items)) grouped b.0);
      plain = λ plain. all_plain P heads x.items (or_parts (is_any x.groups) (list_any is_aggregate x.items) plain).1;
    }
