-- the first offsets are raised
use Rattle.std.proofs.Common.{◌≡◌, ℕ, ◌+◌, ◌≤◌, List, length}
use Rattle.std.specs.List.{concat}
use Rattle.hv_page.specs.Layout.{offsets}
use Rattle.hv_page.proofs.MakingOffsets.{raised}
use Rattle.hv_page.proofs.layout.raise_offsets.Given as goal

abbrev pub invariant-loop-slot : goal.invariant-loop-slot
invariant-loop-slot l =
    (from : ℕ) (entries : List (List ℕ)) → l.initial.bytes ≡ offsets from entries → from + length (concat entries) ≤ 4096 → l.bytes ≡ raised l.slot from entries
