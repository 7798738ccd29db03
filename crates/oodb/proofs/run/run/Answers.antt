-- Each clause is a branch of what became of the run.
use Rattle.oodb.proofs.Running.{at_status, report_taken}
use Rattle.oodb.proofs.Statuses.{if_bad, unread, fault_told, never_script, calm, sink_cut, sink_kept, device_still, device_unused, device_kept, answered}
use Rattle.oodb.specs.declared.status.Status.TheVariants as status
use Rattle.oodb.proofs.run.run.Goals as goal

pub returns : goal.returns
returns g c =
    let answers = c.run_words.ensures in record {
      outcome = answers;
      report = λ reported. report_taken _ _ _ _ _ reported answers;
      words_line = λ is. at_status _ _ _ _ _ status.Words is answers;
      words = if_bad _ _ (λ i bad. unread _ _ _ _ i _ bad answers);
      script_line = λ is. at_status _ _ _ _ _ status.Script is answers;
      script = fault_told _ _ _ _ _ answers;
      no_script = never_script _ _ _ _ _ answers;
      source = λ is. at_status _ _ _ _ _ status.SourceFault is answers;
      calm = calm _ _ _ _ _ answers;
      sink = sink_cut _ _ _ _ _ answers;
      sink_calm = sink_kept _ _ _ _ _ answers;
      memory = λ is. at_status _ _ _ _ _ status.Memory is answers;
      device = device_still _ _ _ _ _ answers;
      unused = device_unused _ _ _ _ _ answers;
      ports = device_kept _ _ _ _ _ answers;
      complete = answered _ _ _ _ _ answers;
    }
