-- the offsets from here on have the fault of all, and the one before is at hand
use Rattle.std.proofs.Common.{◌≡◌, ◌-◌}
use Rattle.hv_page.specs.Fault.{entry_from, offsets_fault}
use Rattle.hv_page.proofs.fault.check_offsets.Given as goal

abbrev pub invariant-loop-slot : goal.invariant-loop-slot
invariant-loop-slot l = record {
  same : offsets_fault l.page 0 l.count ≡ offsets_fault l.page l.slot (l.count - l.slot);
  last : l.before ≡ entry_from l.page (l.slot - 1);
}
