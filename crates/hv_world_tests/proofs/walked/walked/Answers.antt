-- a script has its sessions, and each pick leaves fewer steps
use Rattle.std.proofs.Common.{ℕ, ◌≡◌, ◌<◌, ◌%◌, List, Some, get_or, length}
use Rattle.std.specs.List.{slice_get}
use Rattle.std.proofs.lemmas.Option.{slice_get-get_or}
use Rattle.std.proofs.lemmas.Nat.{mod_below}
use Rattle.hv_model.proofs.ScriptSessions.{script_sessions, script_bounds}
use Rattle.hv_world.specs.World.{ready_places}
use Rattle.hv_world_tests.proofs.walked.walked.Goals as goal

-- a place is picked where one can be
picked_place : (places : List ℕ) (k : ℕ) → 0 < length places → slice_get places (k % length places) ≡ Some (get_or places (k % length places) 0)
picked_place places k some = slice_get-get_or places (k % length places) 0 (mod_below k (length places) some)

pub loop-alloc-smaller : goal.loop-alloc-smaller
loop-alloc-smaller g c =
    (c.pick.ensures.pick _ (picked_place (ready_places c.loop-alloc.world) c.next_word-in-loop-alloc.result (c.done.ensures.ready c.loop-alloc-test.true))).fewer

pub new-requires-clause-sessions : goal.new-requires-clause-sessions
new-requires-clause-sessions g c = script_sessions _ _ c.in-Ok.ensures.script

pub new-requires-clause-bounds : goal.new-requires-clause-bounds
new-requires-clause-bounds g c = script_bounds _ _ c.in-Ok.ensures.script
