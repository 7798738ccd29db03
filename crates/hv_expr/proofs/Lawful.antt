-- Orders that tie equal values alone: the order of cells, of values and of output rows.
use Rattle.std.proofs.Common.{◌≡◌, ℕ, ℤ, Bool, true, false, List, [], ◌∷◌, slice_get, if◌then◌else◌, refl, ap, subst, ◌∙◌}
use Rattle.std.specs.Cmp.{IsTotalOrder}
use Rattle.std.specs.Cmp.Lexicographic.{slice_cmp, options_total}
use Rattle.std.specs.Ordering.{nat_cmp, int_cmp, ordering_then, ordering_reverse}
use Rattle.std.specs.declared.cmp.Ordering.{Ordering}
use Rattle.std.specs.declared.cmp.Ordering.TheVariants.{Less, Equal, Greater}
use Rattle.std.proofs.lemmas.Cmp.{ranked, int_ranked, by_ranked, int_cmp_total, nat_list_cmp_total, on_total, then_total, lists_total}
use Rattle.hv_row.specs.declared.value.Value.{Value}
use Rattle.hv_row.specs.declared.value.Value.TheVariants.{Int, Text}
use Rattle.hv_row.specs.Value.{value_order}
use Rattle.hv_model.specs.declared.query.SortKey.{SortKey}
use Rattle.hv_model.specs.declared.query.Cell.{Cell}
use Rattle.hv_model.specs.declared.query.Cell.TheVariants.{Num, Txt}
use Rattle.hv_model.specs.Answer.{cell_order, key_order, row_order}
use Rattle.hv_model.specs.Groups.{cell_of_value}

-- a total order that ties equal values alone
pub record IsLawful {K : Type 0} (R : K → K → Ordering) : Type 0 where
  pub total : IsTotalOrder R
  pub ties : (x y : K) → R x y ≡ Equal → x ≡ y

-- both parts of a tie by two orders
then_equal : (a b : Ordering) → ordering_then a b ≡ Equal → (a ≡ Equal) × (b ≡ Equal)
then_equal Less b h = absurd (cc)
then_equal Equal b h = (refl, h)
then_equal Greater b h = absurd (cc)

-- lists tie where their elements do
list_ties : {K : Type 0} (R : K → K → Ordering) → ((x y : K) → R x y ≡ Equal → x ≡ y) → (xs ys : List K) → slice_cmp R xs ys ≡ Equal → xs ≡ ys
list_ties R ties [] [] h = refl
list_ties R ties [] (y ∷ ys) h = absurd (cc)
list_ties R ties (x ∷ xs) [] h = absurd (cc)
list_ties R ties (x ∷ xs) (y ∷ ys) h =
    let parts = then_equal (R x y) (slice_cmp R xs ys) h in
    let first = ties x y parts.0 in
    let rest = list_ties R ties xs ys parts.1 in
    cc

-- lists by a lawful order
lawful_lists : {K : Type 0} {R : K → K → Ordering} → IsLawful R → IsLawful (slice_cmp R)
lawful_lists {R = R} o = record { total = lists_total o.total; ties = list_ties R o.ties }

-- numbers tie where they are equal
nat_ties : (x y : ℕ) → nat_cmp x y ≡ Equal → x ≡ y
nat_ties x y h = by_ranked _ _ _ (nat_cmp x y) (ranked x y (nat_cmp x y) refl) (λ e _. absurd (cc)) (λ _ same. same) (λ e _. absurd (cc))

-- and so do signed ones
int_ties : (x y : ℤ) → int_cmp x y ≡ Equal → x ≡ y
int_ties x y h = by_ranked _ _ _ (int_cmp x y) (int_ranked x y (int_cmp x y) refl) (λ e _. absurd (cc)) (λ _ same. same) (λ e _. absurd (cc))

-- the order of cells turns round with its sides
cell_antisymm : (x y : Cell) → cell_order x y ≡ ordering_reverse (cell_order y x)
cell_antisymm (Num x) (Num y) = int_cmp_total.antisymm x y
cell_antisymm (Num x) (Txt y) = refl
cell_antisymm (Txt x) (Num y) = refl
cell_antisymm (Txt x) (Txt y) = nat_list_cmp_total.antisymm x y

-- it goes on
cell_trans : (x y z : Cell) → cell_order x y ≡ Less → cell_order y z ≡ Less → cell_order x z ≡ Less
cell_trans (Num x) (Num y) (Num z) h k = int_cmp_total.trans x y z h k
cell_trans (Num x) (Num y) (Txt z) h k = refl
cell_trans (Num x) (Txt y) (Num z) h k = absurd (cc)
cell_trans (Num x) (Txt y) (Txt z) h k = refl
cell_trans (Txt x) (Num y) z h k = absurd (cc)
cell_trans (Txt x) (Txt y) (Num z) h k = absurd (cc)
cell_trans (Txt x) (Txt y) (Txt z) h k = nat_list_cmp_total.trans x y z h k

-- cells that tie stand alike
cell_congr : (x y z : Cell) → cell_order x y ≡ Equal → cell_order x z ≡ cell_order y z
cell_congr (Num x) (Num y) (Num z) h = int_cmp_total.congr x y z h
cell_congr (Num x) (Num y) (Txt z) h = refl
cell_congr (Num x) (Txt y) z h = absurd (cc)
cell_congr (Txt x) (Num y) z h = absurd (cc)
cell_congr (Txt x) (Txt y) (Num z) h = refl
cell_congr (Txt x) (Txt y) (Txt z) h = nat_list_cmp_total.congr x y z h

-- and are equal
cell_ties : (x y : Cell) → cell_order x y ≡ Equal → x ≡ y
cell_ties (Num x) (Num y) h = ap Num (int_ties x y h)
cell_ties (Num x) (Txt y) h = absurd (cc)
cell_ties (Txt x) (Num y) h = absurd (cc)
cell_ties (Txt x) (Txt y) h = ap Txt (list_ties nat_cmp nat_ties x y h)

-- cells
lawful_cells : IsLawful cell_order
lawful_cells = record {
  total = record { antisymm = cell_antisymm; trans = cell_trans; congr = cell_congr };
  ties = cell_ties;
}

-- values are ordered as their cells are
value_as_cell : (x y : Value) → cell_order (cell_of_value x) (cell_of_value y) ≡ value_order x y
value_as_cell (Int x) (Int y) = refl
value_as_cell (Int x) (Text y) = refl
value_as_cell (Text x) (Int y) = refl
value_as_cell (Text x) (Text y) = refl

-- different values have different cells
one_value : (x y : Value) → cell_of_value x ≡ cell_of_value y → x ≡ y
one_value (Int x) (Int y) h = cc
one_value (Int x) (Text y) h = cc
one_value (Text x) (Int y) h = cc
one_value (Text x) (Text y) h = cc

-- values
pub lawful_values : IsLawful value_order
lawful_values = record {
  total = subst IsTotalOrder (λ i x y. value_as_cell x y i) (on_total cell_of_value lawful_cells.total);
  ties = λ x y h. one_value x y (cell_ties _ _ (value_as_cell x y ∙ h));
}

-- less, turned round, was greater
was_greater : (o : Ordering) → ordering_reverse o ≡ Less → o ≡ Greater
was_greater Less h = absurd (cc)
was_greater Equal h = absurd (cc)
was_greater Greater h = refl

-- a tie stays one
was_equal : (o : Ordering) → ordering_reverse o ≡ Equal → o ≡ Equal
was_equal Less h = absurd (cc)
was_equal Equal h = refl
was_equal Greater h = absurd (cc)

-- an order that a key may turn round
turned_total : {K : Type 0} {R : K → K → Ordering} (down : Bool) → IsTotalOrder R
    → IsTotalOrder (λ x y. if down then ordering_reverse (R x y) else R x y)
turned_total false o = o
turned_total {R = R} true o = record {
  antisymm = λ x y. ap ordering_reverse (o.antisymm x y);
  trans = λ x y z h k.
      let back = o.trans z y x (o.antisymm z y ∙ ap ordering_reverse (was_greater (R y z) k)) (o.antisymm y x ∙ ap ordering_reverse (was_greater (R x y) h)) in
      ap ordering_reverse (o.antisymm x z ∙ ap ordering_reverse back);
  congr = λ x y z h. ap ordering_reverse (o.congr x y z (was_equal (R x y) h));
}

-- one key
key_total : (key : SortKey) → IsTotalOrder (key_order key)
key_total key = turned_total key.down (on_total (λ x. slice_get x key.item) (options_total lawful_cells.total))

-- output rows by the keys are ordered
row_total : (keys : List SortKey) → IsTotalOrder (row_order keys)
row_total [] = lists_total lawful_cells.total
row_total (key ∷ keys) = then_total (key_total key) (row_total keys)

-- rows tie where they are equal, as all their cells are compared at last
row_ties : (keys : List SortKey) (x y : List Cell) → row_order keys x y ≡ Equal → x ≡ y
row_ties [] x y h = list_ties cell_order cell_ties x y h
row_ties (key ∷ keys) x y h =
    let parts = then_equal (key_order key x y) (row_order keys x y) h in
    row_ties keys x y parts.1

-- output rows
pub lawful_rows : (keys : List SortKey) → IsLawful (row_order keys)
lawful_rows keys = record { total = row_total keys; ties = row_ties keys }
