-- The outcome of the first script, over the read of its page.
use Rattle.std.proofs.Common.{false}
use Rattle.hv_world.specs.Known.{Known}
use Rattle.oodb.specs.FirstScript.{script, history, page_read}
use Rattle.oodb.proofs.FirstScript as first
use Rattle.oodb.proofs.law.content_is_met_and_missed.Goals as goal

pub returns-clause-known : goal.returns-clause-known
returns-clause-known c = first.known

pub returns-clause-met : goal.returns-clause-met
returns-clause-met c = first.met (Known false script history page_read)

pub returns-clause-missed : goal.returns-clause-missed
returns-clause-missed c = first.other_missed
