-- The laws, part by part.
use Rattle.hv_pool.proofs.Laws.{frames_all, full_of, moves_stay, full_for_all, owed_where_full, moves_weigh, moves_keep, forgets_keep, forget_ends, forget_leaves}
use Rattle.hv_pool.proofs.law.pool_laws.Goals as goal

pub returns : goal.returns
returns c = record { frames = frames_all; stay = moves_stay; full = full_for_all; shut = full_of; owed = owed_where_full; moved = moves_weigh; kept = moves_keep; forgets = forgets_keep; waits_end = forget_ends; waits_stay = forget_leaves }
