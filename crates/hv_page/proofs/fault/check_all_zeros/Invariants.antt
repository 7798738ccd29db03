-- the bytes from here on have the fault of all
use Rattle.std.proofs.Common.{◌≡◌, ◌+◌, drop}
use Rattle.hv_page.specs.Fault.{zeros_fault}
use Rattle.hv_page.proofs.fault.check_all_zeros.Given as goal

abbrev pub invariant-loop-at : goal.invariant-loop-at
invariant-loop-at l = zeros_fault l.from l.bytes ≡ zeros_fault (l.from + l.at) (drop l.at l.bytes)
