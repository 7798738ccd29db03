-- Only spaces and tabs came so far.
use Rattle.std.proofs.Common.{◌≡◌, drop}
use Rattle.hv_model.specs.Script.{behind_gap}
use Rattle.hv_script.proofs.lines.skip_gap.Given as goal

abbrev pub invariant-loop-at : goal.invariant-loop-at
invariant-loop-at l = behind_gap l.bytes ≡ behind_gap (drop l.at l.bytes)
