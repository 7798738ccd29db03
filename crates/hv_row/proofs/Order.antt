-- The order that `sort` and maps give values is theirs.
use Rattle.std.proofs.Common.{◌≡◌, rules}
use Rattle.hv_row.specs.declared.value.Value.{Value}
use Rattle.hv_row.specs.declared.value.Value.TheVariants.{Int, Text}
use Rattle.hv_row.specs.Value.{value_order}
use Rattle.hv_row.specs.contracts.value.ValueOrd.TheImpl as value_ord

-- the derived comparison is the order of values, at values of two types too
pub cmp_is_value_order : (a b : Value) → (value_ord.ghosts).cmp a b ≡ value_order a b
cmp_is_value_order (Int x) (Int y) = search rules
cmp_is_value_order (Int x) (Text y) = search rules
cmp_is_value_order (Text x) (Int y) = search rules
cmp_is_value_order (Text x) (Text y) = search rules
