-- Queries that fit the schemas of their places. ISO/IEC 9075, comparison predicate, set function specification and group by clause.
use Rattle.std.specs.Prelude.{◌≡◌, nat_lt, nat_eq, Bool, true, false, ◌&&◌, List, length, Option, Some, is_some, slice_get}
use Rattle.std.specs.List.{list_all, list_any}
use Rattle.std.specs.Option.{option_map, option_and_then}
use Rattle.hv_row.specs.declared.value.ColType.{ColType}
use Rattle.hv_row.specs.declared.value.ColType.TheVariants as kind
use Rattle.hv_row.specs.declared.schema.Column.{Column}
use Rattle.hv_row.specs.Value.{type_of}
use Rattle.hv_model.specs.declared.query.ColRef.{ColRef}
use Rattle.hv_model.specs.declared.query.Operand.{Operand}
use Rattle.hv_model.specs.declared.query.Operand.TheVariants as operand
use Rattle.hv_model.specs.declared.query.Cond.{Cond}
use Rattle.hv_model.specs.declared.query.Cond.TheOpen.{Cond-F}
use Rattle.hv_model.specs.declared.query.Cond.TheFolds.{fold-Cond}
use Rattle.hv_model.specs.declared.query.Item.{Item}
use Rattle.hv_model.specs.declared.query.Item.TheVariants as item
use Rattle.hv_model.specs.declared.query.BoundQuery.{BoundQuery}

-- the type of a column under the schemas of the places, where there is one
abbrev pub kind_of : List (List Column) → ColRef → Option ColType
kind_of schemas ref = option_and_then (λ columns. option_map (λ c. c.kind) (slice_get columns ref.column)) (slice_get schemas ref.place)

-- whether a column stands under the schemas
abbrev pub is_column : List (List Column) → ColRef → Bool
is_column schemas ref = is_some (kind_of schemas ref)

-- the type of an operand
abbrev pub operand_kind : List (List Column) → Operand → Option ColType
operand_kind schemas (operand.Col ref) = kind_of schemas ref
operand_kind schemas (operand.Lit v) = Some (type_of v)

-- whether two operands have one type
abbrev pub same_kind : Option ColType → Option ColType → Bool
same_kind (Some kind.Int) (Some kind.Int) = true
same_kind (Some kind.Text) (Some kind.Text) = true
same_kind _ _ = false

-- whether a type is that of numbers
abbrev pub is_int : Option ColType → Bool
is_int (Some kind.Int) = true
is_int _ = false

-- one layer of a condition, over whether its members fit
abbrev pub fits_step : List (List Column) → Cond-F Bool → Bool
fits_step schemas Cond-F.Always = true
fits_step schemas (Cond-F.Test left how right) = same_kind (operand_kind schemas left) (operand_kind schemas right)
fits_step schemas (Cond-F.All bs) = list_all (λ b. b) bs
fits_step schemas (Cond-F.Any bs) = list_all (λ b. b) bs
fits_step schemas (Cond-F.Not b) = b

-- whether both sides of each comparison of a condition have one type
abbrev pub cond_fits : List (List Column) → Cond → Bool
cond_fits schemas c = fold-Cond Bool (fits_step schemas) c

-- whether an item names a column there; SUM one of numbers
abbrev pub item_fits : List (List Column) → Item → Bool
item_fits schemas (item.Col ref) = is_column schemas ref
item_fits schemas item.Count = true
item_fits schemas (item.CountOf ref) = is_column schemas ref
item_fits schemas (item.Sum ref) = is_int (kind_of schemas ref)
item_fits schemas (item.Least ref) = is_column schemas ref
item_fits schemas (item.Greatest ref) = is_column schemas ref

-- whether two columns are the same
abbrev pub same_column : ColRef → ColRef → Bool
same_column a b = nat_eq a.place b.place && nat_eq a.column b.column

-- whether an item is an aggregate, or one of these columns
abbrev pub is_grouped_item : List ColRef → Item → Bool
is_grouped_item groups (item.Col ref) = list_any (same_column ref) groups
is_grouped_item groups _ = true

-- whether an item is a column
abbrev pub is_plain_item : Item → Bool
is_plain_item (item.Col ref) = true
is_plain_item _ = false

-- a query fits the schemas of its places
pub record FitsSchemas (schemas : List (List Column)) (q : BoundQuery) : Type 0 where
  pub places : length q.places ≡ length schemas
  pub cond : cond_fits schemas q.cond ≡ true
  pub items : list_all (item_fits schemas) q.items ≡ true
  pub groups : list_all (is_column schemas) q.groups ≡ true
  pub order : list_all (λ key. nat_lt key.item (length q.items)) q.order ≡ true
  pub one_place : q.grouped ≡ true → length schemas ≡ 1
  pub grouped : q.grouped ≡ true → list_all (is_grouped_item q.groups) q.items ≡ true
  pub plain : q.grouped ≡ false → list_all is_plain_item q.items ≡ true
