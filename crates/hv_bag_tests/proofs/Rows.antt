-- The order of rows ties equal rows alone.
use Rattle.std.proofs.Common.{◌≡◌, sym, ap, ◌∙◌, Equal}
use Rattle.std.specs.Cmp.Lexicographic.{slice_cmp}
use Rattle.std.specs.Ordering.{nat_cmp}
use Rattle.hv_row.specs.declared.value.Value.{Value}
use Rattle.hv_row.specs.declared.value.Value.TheVariants.{Int, Text}
use Rattle.hv_row.specs.Value.{value_order}
use Rattle.hv_row.specs.contracts.value.ValueOrd.TheImpl as value_ord
use Rattle.hv_row.proofs.Order.{cmp_is_value_order}
use Rattle.hv_bag.specs.Bag.{TiesEqualsAlone}
use Rattle.hv_bag.proofs.Orders.{int_ties, nat_ties, list_ties}

-- values tie where they are equal
value_ties : (x y : Value) → value_order x y ≡ Equal → x ≡ y
value_ties (Int x) (Int y) h = ap Int (int_ties x y h)
value_ties (Int x) (Text y) h = cc
value_ties (Text x) (Int y) h = cc
value_ties (Text x) (Text y) h = ap Text (list_ties nat_cmp nat_ties x y h)

-- and so do rows
pub row_ties : TiesEqualsAlone (slice_cmp (value_ord.ghosts).cmp)
row_ties = list_ties (value_ord.ghosts).cmp (λ x y h. value_ties x y (sym (cmp_is_value_order x y) ∙ h))
