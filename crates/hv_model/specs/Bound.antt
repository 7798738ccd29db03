-- The bound query of a select, or its first refusal. ISO/IEC 9075, query specification; the order of refusals and their bytes are this project's own.
use Rattle.std.specs.Prelude.{ℕ, ◌-◌, nat_le, Bool, true, false, ◌&&◌, ◌||◌, List, [], ◌∷◌, length, map, Option, Some, None, Result, Ok, Err, position, if◌then◌else◌}
use Rattle.std.specs.List.{list_any, list_all, flat_map}
use Rattle.std.specs.Option.{option_or, unwrap_or}
use Rattle.hv_row.specs.declared.schema.Column.{Column}
use Rattle.hv_model.specs.declared.tree.RefAst.{RefAst}
use Rattle.hv_model.specs.declared.tree.ItemAst.{ItemAst}
use Rattle.hv_model.specs.declared.tree.ItemAst.TheVariants as it
use Rattle.hv_model.specs.declared.tree.PlaceAst.{PlaceAst}
use Rattle.hv_model.specs.declared.tree.KeyBy.{KeyBy}
use Rattle.hv_model.specs.declared.tree.KeyBy.TheVariants as by
use Rattle.hv_model.specs.declared.tree.KeyAst.{KeyAst}
use Rattle.hv_model.specs.declared.tree.OperandAst.{OperandAst}
use Rattle.hv_model.specs.declared.tree.OperandAst.TheVariants as side
use Rattle.hv_model.specs.declared.tree.CondAst.{CondAst}
use Rattle.hv_model.specs.declared.tree.CondAst.TheOpen.{CondAst-F}
use Rattle.hv_model.specs.declared.tree.CondAst.TheFolds.{fold-CondAst}
use Rattle.hv_model.specs.declared.tree.SelectAst.{SelectAst}
use Rattle.hv_model.specs.declared.catalogue.TableHead.{TableHead}
use Rattle.hv_model.specs.declared.query.ColRef.{ColRef}
use Rattle.hv_model.specs.declared.query.Operand.{Operand}
use Rattle.hv_model.specs.declared.query.Operand.TheVariants as operand
use Rattle.hv_model.specs.declared.query.Cond.{Cond}
use Rattle.hv_model.specs.declared.query.Cond.TheVariants as cond
use Rattle.hv_model.specs.declared.query.Item.{Item}
use Rattle.hv_model.specs.declared.query.Item.TheVariants as item
use Rattle.hv_model.specs.declared.query.SortKey.{SortKey}
use Rattle.hv_model.specs.declared.query.BoundQuery.{BoundQuery}
use Rattle.hv_model.specs.declared.reply.Refusal.{Refusal}
use Rattle.hv_model.specs.declared.reply.Refusal.TheVariants.{TypeMismatch, NotGrouped, NoOutput}
use Rattle.std.specs.Result.{result_err}
use Rattle.hv_model.specs.Causes.{first_of, unless}
use Rattle.hv_model.specs.Sql.{is_aggregate}
use Rattle.hv_model.specs.Scope.{resolved, column_at, all_columns}
use Rattle.hv_model.specs.Fits.{kind_of, operand_kind, same_kind, is_int, same_column}

-- the schemas of tables
abbrev pub schemas_of : List TableHead → List (List Column)
schemas_of heads = map (λ h. h.schema) heads

-- ---- what the parts of a select stand for

-- the column of a reference; of one that is refused any
abbrev pub found : Result ColRef Refusal → ColRef
found (Ok c) = c
found (Err r) = column_at 0 0

abbrev pub ref_of : List PlaceAst → List TableHead → RefAst → ColRef
ref_of places heads r = found (resolved places heads r)

-- an operand
abbrev pub operand_of : List PlaceAst → List TableHead → OperandAst → Operand
operand_of places heads (side.Col r) = operand.Col (ref_of places heads r)
operand_of places heads (side.Lit v) = operand.Lit v

-- one layer of a condition
abbrev pub cond_step : List PlaceAst → List TableHead → CondAst-F Cond → Cond
cond_step places heads CondAst-F.Always = cond.Always
cond_step places heads (CondAst-F.Test left how right byte) = cond.Test (operand_of places heads left) how (operand_of places heads right)
cond_step places heads (CondAst-F.All cs) = cond.All cs
cond_step places heads (CondAst-F.Any cs) = cond.Any cs
cond_step places heads (CondAst-F.Not c) = cond.Not c

-- a condition
abbrev pub cond_of : List PlaceAst → List TableHead → CondAst → Cond
cond_of places heads c = fold-CondAst Cond (cond_step places heads) c

-- the items that one stands for: `*` for all columns of all places
abbrev pub items_of : List PlaceAst → List TableHead → ItemAst → List Item
items_of places heads (it.Star byte) = map item.Col (all_columns heads)
items_of places heads (it.Col r) = item.Col (ref_of places heads r) ∷ []
items_of places heads it.Count = item.Count ∷ []
items_of places heads (it.CountOf r) = item.CountOf (ref_of places heads r) ∷ []
items_of places heads (it.Sum r) = item.Sum (ref_of places heads r) ∷ []
items_of places heads (it.Least r) = item.Least (ref_of places heads r) ∷ []
items_of places heads (it.Greatest r) = item.Greatest (ref_of places heads r) ∷ []

-- all items
abbrev pub all_items : List PlaceAst → List TableHead → List ItemAst → List Item
all_items places heads items = flat_map (items_of places heads) items

-- the number of the first item that is this column
abbrev pub is_item : ColRef → Item → Bool
is_item ref (item.Col other) = same_column ref other
is_item ref _ = false

abbrev pub item_number : List Item → ColRef → Option ℕ
item_number items ref = position (is_item ref) items

-- the number of the item that an order key names, from 0, where it names one; written numbers count from 1
abbrev pub key_item : List PlaceAst → List TableHead → List Item → KeyBy → Option ℕ
key_item places heads items (by.Number n) = if nat_le 1 n && nat_le n (length items) then Some (n - 1) else None
key_item places heads items (by.Col r) = item_number items (ref_of places heads r)

-- an order key
abbrev pub key_of : List PlaceAst → List TableHead → List Item → KeyAst → SortKey
key_of places heads items k = record { item = unwrap_or (key_item places heads items k.by) 0; down = k.down }

-- whether a list has a member
abbrev pub is_any : {A : Type 0} → List A → Bool
is_any [] = false
is_any (_ ∷ _) = true

-- whether a select is grouped: it has GROUP BY or an aggregate
abbrev pub is_grouped : SelectAst → Bool
is_grouped x = is_any x.groups || list_any is_aggregate x.items

-- the bound query of a select that isn't refused
abbrev pub bound_query : SelectAst → List TableHead → BoundQuery
bound_query x heads =
    let items = all_items x.places heads x.items in record {
      places = map (λ h. h.number) heads;
      cond = cond_of x.places heads x.cond;
      items = items;
      grouped = is_grouped x;
      groups = map (ref_of x.places heads) x.groups;
      order = map (key_of x.places heads items) x.order;
      limit = x.limit;
    }

-- ---- references and comparisons, in the order of the text

-- a reference
abbrev pub ref_refusal : List PlaceAst → List TableHead → RefAst → Option Refusal
ref_refusal places heads r = result_err (resolved places heads r)

-- an item: the sum of texts is refused at its reference
abbrev pub item_refusal : List PlaceAst → List TableHead → ItemAst → Option Refusal
item_refusal places heads (it.Star byte) = None
item_refusal places heads (it.Col r) = ref_refusal places heads r
item_refusal places heads it.Count = None
item_refusal places heads (it.CountOf r) = ref_refusal places heads r
item_refusal places heads (it.Sum r) =
    option_or (ref_refusal places heads r) (unless (is_int (kind_of (schemas_of heads) (ref_of places heads r))) (TypeMismatch r.byte))
item_refusal places heads (it.Least r) = ref_refusal places heads r
item_refusal places heads (it.Greatest r) = ref_refusal places heads r

-- an operand
abbrev pub operand_refusal : List PlaceAst → List TableHead → OperandAst → Option Refusal
operand_refusal places heads (side.Col r) = ref_refusal places heads r
operand_refusal places heads (side.Lit v) = None

-- a comparison: its left side, its right side, then their types, at the symbol
abbrev pub test_refusal : List PlaceAst → List TableHead → OperandAst → OperandAst → ℕ → Option Refusal
test_refusal places heads left right byte =
    first_of (operand_refusal places heads left ∷ operand_refusal places heads right
    ∷ unless (same_kind (operand_kind (schemas_of heads) (operand_of places heads left)) (operand_kind (schemas_of heads) (operand_of places heads right))) (TypeMismatch byte) ∷ [])

-- one layer of a condition, over the refusals of its members
abbrev pub refusal_step : List PlaceAst → List TableHead → CondAst-F (Option Refusal) → Option Refusal
refusal_step places heads CondAst-F.Always = None
refusal_step places heads (CondAst-F.Test left how right byte) = test_refusal places heads left right byte
refusal_step places heads (CondAst-F.All rs) = first_of rs
refusal_step places heads (CondAst-F.Any rs) = first_of rs
refusal_step places heads (CondAst-F.Not r) = r

-- a condition
abbrev pub cond_refusal : List PlaceAst → List TableHead → CondAst → Option Refusal
cond_refusal places heads c = fold-CondAst (Option Refusal) (refusal_step places heads) c

-- an order key's reference
abbrev pub key_refusal : List PlaceAst → List TableHead → KeyBy → Option Refusal
key_refusal places heads (by.Number n) = None
key_refusal places heads (by.Col r) = ref_refusal places heads r

-- the first of all of them
abbrev pub names_refusal : SelectAst → List TableHead → Option Refusal
names_refusal x heads =
    first_of (first_of (map (item_refusal x.places heads) x.items)
    ∷ cond_refusal x.places heads x.cond
    ∷ first_of (map (ref_refusal x.places heads) x.groups)
    ∷ first_of (map (λ k. key_refusal x.places heads k.by) x.order) ∷ [])

-- ---- plain columns of a grouped select

-- whether a column is among these
abbrev pub is_among : List ColRef → ColRef → Bool
is_among groups ref = list_any (same_column ref) groups

-- an item: a column that isn't a group column is refused at its reference, or at the `*`
abbrev pub plain_refusal : List PlaceAst → List TableHead → List ColRef → ItemAst → Option Refusal
plain_refusal places heads groups (it.Star byte) = unless (list_all (is_among groups) (all_columns heads)) (NotGrouped byte)
plain_refusal places heads groups (it.Col r) = unless (is_among groups (ref_of places heads r)) (NotGrouped r.byte)
plain_refusal places heads groups _ = None

-- the first item that is refused so
abbrev pub grouping_refusal : SelectAst → List TableHead → Option Refusal
grouping_refusal x heads =
    if is_grouped x then first_of (map (plain_refusal x.places heads (map (ref_of x.places heads) x.groups)) x.items) else None

-- ---- order keys

-- a refusal where nothing is found
abbrev pub if_none : Option ℕ → Refusal → Option Refusal
if_none None r = Some r
if_none (Some n) r = None

-- the first order key that names no item
abbrev pub order_refusal : SelectAst → List TableHead → Option Refusal
order_refusal x heads =
    first_of (map (λ k. if_none (key_item x.places heads (all_items x.places heads x.items) k.by) (NoOutput k.byte)) x.order)

-- ---- all of it, in order: names and types, plain columns, order keys
abbrev pub bind_refusal : SelectAst → List TableHead → Option Refusal
bind_refusal x heads = first_of (names_refusal x heads ∷ grouping_refusal x heads ∷ order_refusal x heads ∷ [])
