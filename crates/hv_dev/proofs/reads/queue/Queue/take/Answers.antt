-- The reads before and behind the one that is taken out stay.
use Rattle.std.proofs.Common.{rules, ◌+◌, take, drop}
use Rattle.hv_dev.proofs.UnderWay.{around}
use Rattle.hv_dev.proofs.reads.queue.Queue.take.Goals as goal

pub returns-clause-taken : goal.returns-clause-taken
returns-clause-taken g c = record {
  front = take c.args.at c.args.self.now.held.items;
  back = drop (c.args.at + 1) c.args.self.now.held.items;
  were = around _ _ _ (search rules) (rw c.unwrap.ensures at c.remove.ensures.value);
  are = search rules;
}
