-- The items so far.
use Rattle.std.proofs.Common.{◌≡◌, ◌++◌, map, take}
use Rattle.hv_model.specs.declared.query.Item.TheVariants as item
use Rattle.hv_bind.proofs.items.add_columns.Given as goal

abbrev pub invariant-loop-column : goal.invariant-loop-column
invariant-loop-column l = l.items ≡ l.initial.items ++ map item.Col (take l.column-index l.columns)
