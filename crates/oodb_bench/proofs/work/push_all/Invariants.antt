use Rattle.hv_page.specs.Layout.{WasBegun}
use Rattle.oodb_bench.proofs.work.push_all.Given as goal

abbrev pub invariant-loop-entry : goal.invariant-loop-entry
invariant-loop-entry l = WasBegun l.page
