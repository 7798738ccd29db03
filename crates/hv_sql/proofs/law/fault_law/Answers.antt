-- The laws, part by part.
use Rattle.hv_sql.proofs.Completing.{faults_completed, faults_final}
use Rattle.hv_sql.proofs.law.fault_law.Goals as goal

pub returns : goal.returns
returns c = record {
  completed = faults_completed;
  ends = faults_final;
}
