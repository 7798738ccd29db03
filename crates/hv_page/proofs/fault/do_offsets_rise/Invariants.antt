-- where the offsets so far fit, those from here on have the fault of all
use Rattle.std.proofs.Common.{◌≡◌, ◌-◌}
use Rattle.std.specs.Prelude.{IsTrue}
use Rattle.hv_page.specs.Fault.{offsets_fault}
use Rattle.hv_page.proofs.fault.do_offsets_rise.Given as goal

abbrev pub invariant-loop-slot : goal.invariant-loop-slot
invariant-loop-slot l = IsTrue l.rise → offsets_fault l.page 1 (l.count - 1) ≡ offsets_fault l.page l.slot (l.count - l.slot)
