-- How many lines came so far, and whether the last one is open.
use Rattle.std.proofs.Common.{◌≡◌, ◌≤◌, length, take}
use Rattle.hv_model.specs.Script.{line_list}
use Rattle.hv_script.proofs.LineCount.{open_line}
use Rattle.hv_script.proofs.lines.lines_len.Given as goal

abbrev pub invariant-loop-at : goal.invariant-loop-at
invariant-loop-at l = record {
  counted : l.lines ≡ length (line_list (take l.at l.bytes));
  within : l.lines ≤ l.wanted;
  within_line : l.open ≡ open_line (take l.at l.bytes);
}
