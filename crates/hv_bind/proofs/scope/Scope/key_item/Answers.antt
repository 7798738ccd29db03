-- A column is found by the reference that names it.
use Rattle.std.proofs.Common.{sym, ap, ◌∙◌}
use Rattle.hv_model.specs.Bound.{item_number, key_item}
use Rattle.hv_bind.proofs.scope.Scope.key_item.Goals as goal

pub returns-in-Col : goal.returns-in-Col
returns-in-Col c =
    c.item_number.ensures ∙ ap (item_number c.args.items.now) c.column_of.ensures
    ∙ sym (ap (key_item c.args.self.now.places.now c.args.self.now.heads.now c.args.items.now) c.in-Col.is)
