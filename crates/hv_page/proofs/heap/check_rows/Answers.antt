use Rattle.std.proofs.Common.{◌+◌, Some, sym, ap, ◌∙◌}
use Rattle.hv_page.specs.Fault.{heap_entry_fault}
use Rattle.hv_page.proofs.Points.{entry_between, entry_to_next, entries_stop, entries_go_on, entries_end}
use Rattle.hv_page.proofs.heap.check_rows.Goals as goal

pub returns-in-Err : goal.returns-in-Err
returns-in-Err c =
    let test = heap_entry_fault c.args.schema.now in
    let from = c.loop-slot.invariant.next c.loop-slot-test.true in
    let entry = entry_between c.args.page.now c.loop-slot.slot c.loop-slot.from c.end_of-to.result from c.end_of-to.ensures in
    c.loop-slot.invariant.same
    ∙ entries_stop test c.args.page.now c.loop-slot.slot c.args.count c.in-Err.byte c.loop-slot-test.true (ap test (sym entry) ∙ c.in-Err.ensures.fault)
    ∙ ap (λ at. Some (at + c.in-Err.byte)) (sym from)

pub loop-slot-preserved : goal.loop-slot-preserved
loop-slot-preserved c =
    let test = heap_entry_fault c.args.schema.now in
    let from = c.loop-slot.invariant.next c.loop-slot-test.true in
    let entry = entry_between c.args.page.now c.loop-slot.slot c.loop-slot.from c.end_of-to.result from c.end_of-to.ensures in
    record {
      same = c.loop-slot.invariant.same ∙ entries_go_on test c.args.page.now c.loop-slot.slot c.args.count c.loop-slot-test.true (ap test (sym entry) ∙ c.in_default.ensures.fault);
      next = λ lt. c.end_of-to.ensures ∙ entry_to_next c.args.page.now c.loop-slot.slot c.args.count c.requires.counted lt;
    }

pub returns : goal.returns
returns c = c.loop-slot.invariant.same ∙ entries_end (heap_entry_fault c.args.schema.now) c.args.page.now c.loop-slot.slot c.args.count c.loop-slot-test.false
