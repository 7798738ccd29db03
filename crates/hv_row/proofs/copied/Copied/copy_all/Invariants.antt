-- the copies so far are the items gone through
use Rattle.std.proofs.Common.{◌≡◌, take}
use Rattle.hv_row.proofs.copied.Copied.copy_all.Given as goal

abbrev pub invariant-loop-item : goal.invariant-loop-item
invariant-loop-item g l = l.copies.items ≡ take l.item-index l.items
