-- Order keys over the items of a select.
use Rattle.std.specs.Prelude.{List, map, Option}
use Rattle.hv_model.specs.declared.tree.PlaceAst.{PlaceAst}
use Rattle.hv_model.specs.declared.tree.KeyAst.{KeyAst}
use Rattle.hv_model.specs.declared.catalogue.TableHead.{TableHead}
use Rattle.hv_model.specs.declared.query.Item.{Item}
use Rattle.hv_model.specs.declared.reply.Refusal.{Refusal}
use Rattle.hv_model.specs.declared.reply.Refusal.TheVariants.{NoOutput}
use Rattle.hv_model.specs.Causes.{first_of}
use Rattle.hv_model.specs.Bound.{if_none, key_item}

-- an order key that names none of these items
abbrev pub key_refusal : List PlaceAst → List TableHead → List Item → KeyAst → Option Refusal
key_refusal places heads items k = if_none (key_item places heads items k.by) (NoOutput k.byte)

-- the first of these keys that names none
abbrev pub keys_refusal : List PlaceAst → List TableHead → List Item → List KeyAst → Option Refusal
keys_refusal places heads items keys = first_of (map (key_refusal places heads items) keys)
