-- The outcome of the first script.
use Rattle.oodb.proofs.FirstScript.{met, missed}
use Rattle.oodb.proofs.law.legal_is_met_and_missed.Goals as goal

pub returns-clause-met : goal.returns-clause-met
returns-clause-met c = met (Unit {0})

pub returns-clause-missed : goal.returns-clause-missed
returns-clause-missed c = missed (Unit {0})
