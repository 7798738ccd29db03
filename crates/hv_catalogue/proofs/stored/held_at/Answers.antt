-- each chunk of the table is held, in its order
use Rattle.std.proofs.Common.{sym, ap, arith, ◌∙◌, ◌≤◌, length}
use Rattle.std.specs.Prelude.{map}
use Rattle.std.specs.Option.{option_map}
use Rattle.std.specs.Map.Iter.{deref_pair}
use Rattle.hv_model.specs.declared.catalogue.Table.{Table}
use Rattle.hv_catalogue.specs.Holding.{held_chunk}
use Rattle.hv_catalogue.proofs.Tables.{stored_is, one_held, all_held}
use Rattle.hv_catalogue.proofs.stored.held_at.Goals as goal

pub loop-place-preserved : goal.loop-place-preserved
loop-place-preserved g c =
    let es = c.index-table.result.now.chunks.entries in
    let read = sym c.get_index.ensures.entry ∙ ap (option_map deref_pair) c.unwrap.ensures in
    one_held es c.loop-place.place (deref_pair c.unwrap.result) c.loop-place.chunks c.push.new.self c.in_ok-copy.field-0 read c.in_ok-copy.ensures c.loop-place.invariant c.in_ok-push.ensures.ok

pub returns : goal.returns
returns g c t stands =
    let was = c.index-table.result.now in
    let is = stored_is c.args.tables.now.entries c.args.at was t c.index-table.ensures stands in
    let past : length was.chunks.entries ≤ c.loop-place.place = omega (arith, c.len-place-end.ensures.len, c.loop-place-test.false) in
    let all = all_held was.chunks.entries c.loop-place.place c.loop-place.chunks past c.loop-place.invariant ∙ ap (λ (t : Table _). map held_chunk t.chunks) (sym is) in
    λ j. record { chunks = all j }
