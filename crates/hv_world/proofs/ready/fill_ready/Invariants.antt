-- the places so far and those of the sessions that are left are all
use Rattle.std.proofs.Common.{◌≡◌, ◌≤◌, ◌++◌, length, drop, vec_capacity}
use Rattle.hv_model.specs.declared.script.Script.{Script}
use Rattle.hv_world.specs.World.{ready_from}
use Rattle.hv_world.specs.Turns.{HaveTurns, replies_of}
use Rattle.hv_world.proofs.ready.fill_ready.Given as goal

abbrev pub invariant-loop-at : goal.invariant-loop-at
invariant-loop-at g l =
    ((s : Script) → HaveTurns s s.sessions l.sessions
    → l.ready.items ++ ready_from s l.phase l.at (drop l.at s.sessions) (replies_of (drop l.at l.sessions)) ≡ ready_from s l.phase 0 s.sessions (replies_of l.sessions))
    × (length l.ready.items ≤ l.at) × (vec_capacity l.ready ≡ vec_capacity l.initial.ready)
