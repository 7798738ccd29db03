-- the sessions that can take a step rise
use Rattle.std.proofs.Common.{◌≡◌, ◌≤◌, ◌∙◌, ℕ, List, length, sym, ap, subst, arith}
use Rattle.std.specs.List.Sorted.{IsNonDecreasingBy}
use Rattle.hv_world.specs.Turns.{replies_of}
use Rattle.hv_world.specs.World.{ready_from}
use Rattle.hv_world.proofs.ReadyPlaces.{ready_few}
use Rattle.hv_world.proofs.RoundPlaces.{ready_rising}
use Rattle.hv_world.proofs.world.World.next_round.Goals as goal

pub count_to-requires : goal.count_to-requires
count_to-requires g c =
    let w = c.self.inside in
    let are : c.as_slice.result.now ≡ ready_from w.script w.phase 0 w.script.sessions (replies_of w.sessions.items) = c.as_slice.ensures.value ∙ c.self.invariant.ready in
    let few : length (ready_from w.script w.phase 0 w.script.sessions (replies_of w.sessions.items)) ≤ length w.script.sessions = ready_few w.script w.phase 0 w.script.sessions (replies_of w.sessions.items) in
    let count : length c.as_slice.result.now ≡ length (ready_from w.script w.phase 0 w.script.sessions (replies_of w.sessions.items)) = ap (λ (xs : List ℕ). length xs) are in
    record {
      few = omega (arith, few, count, c.self.invariant.bounds.few_sessions);
      rising = subst (λ (xs : List ℕ). IsNonDecreasingBy (λ (at : ℕ). at) xs) (sym are) (ready_rising w.script w.phase 0 w.script.sessions (replies_of w.sessions.items));
    }
