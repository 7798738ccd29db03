-- the entries from here on have the fault of all, and the place of the next one is at hand
use Rattle.std.proofs.Common.{◌≡◌, ◌-◌, ◌<◌}
use Rattle.hv_page.specs.Fault.{entry_from, heap_entry_fault, entries_fault}
use Rattle.hv_page.proofs.heap.check_rows.Given as goal

abbrev pub invariant-loop-slot : goal.invariant-loop-slot
invariant-loop-slot l = record {
  same : entries_fault (heap_entry_fault l.schema) l.page 0 l.count ≡ entries_fault (heap_entry_fault l.schema) l.page l.slot (l.count - l.slot);
  next : l.slot < l.count → l.from ≡ entry_from l.page l.slot;
}
