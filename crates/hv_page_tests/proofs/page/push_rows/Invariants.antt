use Rattle.std.proofs.Common.{◌≤◌}
use Rattle.hv_page.specs.Layout.{WasBegun}
use Rattle.hv_page_tests.proofs.page.push_rows.Given as goal

abbrev pub invariant-loop : goal.invariant-loop
invariant-loop l = record { begun : WasBegun l.page; few : l.pushed ≤ l.counter }
