use Rattle.hv_pool.proofs.Indexed.{Ahead}
use Rattle.hv_pool.proofs.index.find_in.Given as goal

-- a place under the key is in the rest of the chain
abbrev pub invariant-loop-passed : goal.invariant-loop-passed
invariant-loop-passed l = Ahead l.links l.slots l.key l.at l._passed
