-- The source never fails, and the sink took nothing before.
use Rattle.oodb.proofs.Statuses.{if_bad}
use Rattle.oodb.proofs.OverMemory.{OverMemory, calm_at_none, reports, ends, word_told, words_alone, tells_fault, fault_alone, completes}
use Rattle.oodb.proofs.memory.run_in_memory.Goals as goal

pub returns : goal.returns
returns c =
    let over : OverMemory c.args.script.items c.into_vec.result.items _ _ = record { left = c.new-source.ensures; faultless = calm_at_none; empty = c.new-out.ensures.taken; full = c.into_vec.ensures } in
    let answers = c.run.ensures.outcome in record {
      report = (λ reported. reports _ _ _ _ _ over _ calm_at_none (c.run.ensures.report reported));
      ends = ends _ _ _ _ _ over _ c.in_default.not-SinkFault c.in_default.not-Memory answers;
      words = if_bad _ _ (λ i bad. word_told _ _ _ _ _ over i _ bad answers c.in_default.not-SinkFault);
      words_alone = words_alone _ _ _ _ _ over _ answers;
      fault = tells_fault _ _ _ _ _ over _ c.in_default.not-SinkFault c.in_default.not-Memory answers;
      fault_alone = fault_alone _ _ _ _ _ over _ answers;
      complete = completes _ _ _ _ _ over _ c.in_default.not-SinkFault c.in_default.not-Memory answers;
    }
