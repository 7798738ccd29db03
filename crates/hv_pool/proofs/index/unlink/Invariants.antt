use Rattle.std.proofs.Common.{◌≡◌, length}
use Rattle.hv_pool.proofs.Indexed.{Passed}
use Rattle.hv_pool.proofs.index.unlink.Given as goal

-- the place isn't in what was passed of the chain
abbrev pub invariant-loop-passed : goal.invariant-loop-passed
invariant-loop-passed l = record {
  passed : Passed l.links l.slots l.bucket l.place l.at l._passed;
  long : length l.links ≡ length l.fn.links;
}
