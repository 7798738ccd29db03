-- The laws, part by part.
use Rattle.hv_sql.proofs.KindLaws.{kinds_compared, kinds_apart}
use Rattle.hv_sql.proofs.OneReading.{one_tree, trees_sound, trees_complete, faults_sound, faults_complete, one_fault, no_fault_too}
use Rattle.hv_sql.proofs.Grouped.{one_place}
use Rattle.hv_sql.proofs.law.grammar_laws.Goals as goal

pub returns : goal.returns
returns c = record {
  compared = kinds_compared;
  kinds = kinds_apart;
  tree = one_tree;
  sound = trees_sound;
  complete = trees_complete;
  told = faults_sound;
  tells = faults_complete;
  fault = one_fault;
  both = no_fault_too;
  one_place = one_place;
}
