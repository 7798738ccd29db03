-- the chunks so far have no page left
use Rattle.std.proofs.Common.{◌-◌, length}
use Rattle.hv_world.specs.Selecting.{LeadsTo}
use Rattle.hv_world.proofs.tables.next_page.Given as goal

abbrev pub invariant-loop-at : goal.invariant-loop-at
invariant-loop-at g l = LeadsTo l.fn.table l.fn.chunk l.fn.page l.at l.behind

abbrev pub decreases-loop-at : goal.decreases-loop-at
decreases-loop-at g l = length l.fn.table.chunks - l.at
