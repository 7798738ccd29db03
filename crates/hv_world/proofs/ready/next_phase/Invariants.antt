-- the first phase of the sessions so far
use Rattle.std.proofs.Common.{take}
use Rattle.hv_world.specs.Turns.{IsNextPhase}
use Rattle.hv_world.proofs.ready.next_phase.Given as goal

abbrev pub invariant-loop-session : goal.invariant-loop-session
invariant-loop-session g l = IsNextPhase (take l.session-index l.sessions) l.least
