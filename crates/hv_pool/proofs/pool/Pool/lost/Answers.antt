use Rattle.std.proofs.Common.{sym, true≢false}
use Rattle.hv_pool.proofs.pool.Pool.lost.Goals as goal

-- no frame that is lost brings a page
pub arrive-requires-clause-digest : goal.arrive-requires-clause-digest
arrive-requires-clause-digest c = λ h e. absurd (true≢false (sym e))
