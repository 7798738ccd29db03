-- One more text is taken off the rest.
use Rattle.std.proofs.Common.{arith}
use Rattle.hv_model.specs.declared.script.FaultName.TheVariants.{LongImport, ShortImport}
use Rattle.hv_script.specs.SoFar.{placed_of}
use Rattle.hv_script.proofs.Behind.{next_shorter, long_import, short_import, told_at}
use Rattle.hv_script.proofs.Taken.{front_of, script_behind, read_next, over_fault}
use Rattle.hv_script.proofs.script.read_statements.Goals as goal

pub returns-in-End-clause-script : goal.returns-in-End-clause-script
returns-in-End-clause-script c =
    script_behind c.args.bytes.now c.loop-so_far.rest.now (placed_of c.loop-so_far.so_far) c.in_ok-into_script-in-End.field-0
    c.in_ok-test_bytes.ensures.short c.in_ok-test_bytes.ensures.utf8 c.loop-so_far.invariant.read c.loop-so_far.invariant.kept.within c.in-End.ensures c.in_ok-into_script-in-End.ensures

pub returns-in-Long-clause-fault : goal.returns-in-Long-clause-fault
returns-in-Long-clause-fault c =
    let front = front_of c.args.bytes.now c.loop-so_far.rest.now (placed_of c.loop-so_far.so_far)
    c.in_ok-test_bytes.ensures.short c.in_ok-test_bytes.ensures.utf8 c.loop-so_far.invariant.read c.loop-so_far.invariant.kept.within in
    told_at LongImport c.args.bytes.now c.in-Long.from.now _ c.fault_at-in-Long.ensures (λ byte at. long_import c.args.bytes.now c.loop-so_far.rest.now _ byte front c.in-Long.ensures at)

pub returns-in-Short-clause-fault : goal.returns-in-Short-clause-fault
returns-in-Short-clause-fault c =
    let front = front_of c.args.bytes.now c.loop-so_far.rest.now (placed_of c.loop-so_far.so_far)
    c.in_ok-test_bytes.ensures.short c.in_ok-test_bytes.ensures.utf8 c.loop-so_far.invariant.read c.loop-so_far.invariant.kept.within in
    told_at ShortImport c.args.bytes.now c.in-Short.from.now _ c.fault_at-in-Short.ensures (λ byte at. short_import c.args.bytes.now c.loop-so_far.rest.now _ byte front c.in-Short.ensures at)

pub returns-in-Some-clause-fault : goal.returns-in-Some-clause-fault
returns-in-Some-clause-fault c =
    told_at c.in-Some.fault c.args.bytes.now c.in-Found.from.now _ c.fault_at-in-Some.ensures
    (over_fault c.in-Some.fault c.args.bytes.now c.loop-so_far.rest.now c.in-Found.from.now _ _ _ (placed_of c.loop-so_far.so_far)
    c.in_ok-test_bytes.ensures.short c.in_ok-test_bytes.ensures.utf8 c.loop-so_far.invariant.read c.loop-so_far.invariant.kept.within c.in-Found.ensures (rw c.in-Some.is at c.in_ok-fault-in-Found.ensures))

pub loop-so_far-smaller : goal.loop-so_far-smaller
loop-so_far-smaller c = next_shorter _ _ _ _ _ c.in-Found.ensures

pub loop-so_far-preserved : goal.loop-so_far-preserved
loop-so_far-preserved c =
    let taken = rw c.in_default.is at c.in_ok-fault-in-Found.ensures in
    let less = next_shorter _ _ _ _ _ c.in-Found.ensures in
    record {
      read = read_next c.args.bytes.now c.loop-so_far.rest.now c.in-Found.from.now _ _ _ (placed_of c.loop-so_far.so_far) _ c.loop-so_far.invariant.read c.in-Found.ensures taken.is;
      kept = taken.kept;
      room = omega (arith, less);
    }
