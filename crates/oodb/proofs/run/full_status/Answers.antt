-- A reply failed where one of some session did.
use Rattle.std.proofs.Common.{true, false}
use Rattle.oodb.proofs.Running.{status_by}
use Rattle.oodb.proofs.run.full_status.Goals as goal

pub returns-then-any_failed : goal.returns-then-any_failed
returns-then-any_failed c = status_by c.args.sessions.now c.any_failed.result true c.any_failed.ensures c.if-any_failed.true

pub returns-else-any_failed : goal.returns-else-any_failed
returns-else-any_failed c = status_by c.args.sessions.now c.any_failed.result false c.any_failed.ensures c.if-any_failed.false
