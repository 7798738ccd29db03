-- The laws, part by part.
use Rattle.hv_pool.proofs.Owing.{owed_to, waited_owed, asks_leave_owed, arrivals_leave_owed, forgets_leave_owed}
use Rattle.hv_pool.proofs.law.owed_laws.Goals as goal

pub returns : goal.returns
returns c = record { owed_to = owed_to; waited = waited_owed; asks = asks_leave_owed; arrives = arrivals_leave_owed; forgets = forgets_leave_owed }
