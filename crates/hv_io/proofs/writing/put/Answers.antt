-- A write that fails or takes nothing stops; one that takes bytes goes on behind them.
use Rattle.std.proofs.Common.{rules, ◌<◌, length}
use Rattle.hv_io.proofs.Putting.{underway_next, underway_part, stops_at_once, takes_none}
use Rattle.hv_io.proofs.writing.put.Goals as goal

pub returns-in-Err-clause-part : goal.returns-in-Err-clause-part
returns-in-Err-clause-part g c =
    underway_part _ _ _ _ _ _ c.loop-rest.invariant (stops_at_once _ _ _ _ (takes_none _ _ c.in-Err.ensures.failed) (c.in-Err.ensures.rose, c.in-Err.ensures.no_zero))

pub returns-in-Ok-eq0-clause-part : goal.returns-in-Ok-eq0-clause-part
returns-in-Ok-eq0-clause-part g c =
    let some : 0 < length c.loop-rest.rest.now = search rules in
    let none = rw c.in-Ok-eq0.field-0-test at c.in-Ok-eq0.ensures.takes in
    underway_part _ _ _ _ _ _ c.loop-rest.invariant (stops_at_once _ _ _ _ none (c.in-Ok-eq0.ensures.zero c.in-Ok-eq0.field-0-test some, c.in-Ok-eq0.ensures.kept))

pub loop-rest-preserved : goal.loop-rest-preserved
loop-rest-preserved g c = rw c.split_at.ensures.back (underway_next _ _ _ _ _ _ c.loop-rest.invariant c.in-Ok.ensures.takes c.in-Ok.ensures.kept (c.in-Ok.ensures.some (search rules)))
