-- No `;` outside quotes came so far, and the flag says whether a quote is open.
use Rattle.std.proofs.Common.{◌≡◌, false, take, Some}
use Rattle.hv_model.specs.Script.{quoted_behind}
use Rattle.hv_script.proofs.text.text_len.Given as goal

abbrev pub invariant-loop-at : goal.invariant-loop-at
invariant-loop-at l = quoted_behind false (take l.at l.bytes) ≡ Some l.quoted
