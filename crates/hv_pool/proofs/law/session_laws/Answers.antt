-- The laws, part by part.
use Rattle.hv_pool.proofs.Others.{asks_leave_waits, asks_leave_frames, arrivals_leave_frames, arrivals_keep_waits, arrivals_leave_waits}
use Rattle.hv_pool.proofs.law.session_laws.Goals as goal

pub returns : goal.returns
returns c = record { asks_leave_waits = asks_leave_waits; asks_leave_frames = asks_leave_frames; arrivals_leave_frames = arrivals_leave_frames; arrivals_keep_waits = arrivals_keep_waits; arrivals_leave_waits = arrivals_leave_waits }
