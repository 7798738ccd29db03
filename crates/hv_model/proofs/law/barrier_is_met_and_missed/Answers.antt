-- The outcome of the script of three sessions.
use Rattle.hv_model.proofs.ThreeSessions.{met, missed}
use Rattle.hv_model.proofs.law.barrier_is_met_and_missed.Goals as goal

pub returns-clause-met : goal.returns-clause-met
returns-clause-met c = λ max. met max (Unit {0})

pub returns-clause-missed : goal.returns-clause-missed
returns-clause-missed c = λ max. missed max (Unit {0})
