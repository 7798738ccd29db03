-- All bytes so far are blank.
use Rattle.std.proofs.Common.{◌≡◌, true, take}
use Rattle.std.specs.List.{list_all}
use Rattle.hv_model.specs.Script.{is_blank}
use Rattle.hv_script.proofs.text.count_blanks.Given as goal

abbrev pub invariant-loop-at : goal.invariant-loop-at
invariant-loop-at l = list_all is_blank (take l.at l.bytes) ≡ true
