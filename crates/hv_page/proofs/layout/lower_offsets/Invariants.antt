-- the first offsets are lowered
use Rattle.std.proofs.Common.{◌≡◌, ℕ, ◌+◌, ◌≤◌, List, length, drop}
use Rattle.std.specs.List.{concat}
use Rattle.hv_page.specs.Layout.{offsets}
use Rattle.hv_page.proofs.Lowering.{Lowered}
use Rattle.hv_page.proofs.layout.lower_offsets.Given as goal

abbrev pub invariant-loop-slot : goal.invariant-loop-slot
invariant-loop-slot l =
    (from : ℕ) (entries : List (List ℕ)) → drop 2 l.initial.bytes ≡ offsets from entries → from + length (concat entries) ≤ 4096 → Lowered l.slot from entries l.bytes
