-- there are at most 64 sessions
use Rattle.std.proofs.Common.{ℕ, List, length, ap, arith}
use Rattle.hv_world.specs.Turns.{replies_of}
use Rattle.hv_world.proofs.ReadyPlaces.{ready_few}
use Rattle.hv_world.proofs.world.World.ready.Goals as goal

pub overflow_cast-result : goal.overflow_cast-result
overflow_cast-result g c =
    let w = c.self.inside in
    let few = ready_few w.script w.phase 0 w.script.sessions (replies_of w.sessions.items) in
    let are = ap (λ (xs : List ℕ). length xs) c.self.invariant.ready in
    omega (arith, few, are, c.self.invariant.bounds.few_sessions, c.len.ensures, w.unfinished.ok.0)
