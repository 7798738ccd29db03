-- each pick leaves fewer steps, of the same script
use Rattle.std.proofs.Common.{ℕ, ◌≡◌, ◌<◌, ◌%◌, List, Some, get_or, length, ◌∙◌}
use Rattle.std.specs.List.{slice_get}
use Rattle.std.proofs.lemmas.Option.{slice_get-get_or}
use Rattle.std.proofs.lemmas.Nat.{mod_below}
use Rattle.hv_world.specs.World.{ready_places}
use Rattle.oodb.proofs.run.take_turns.Goals as goal

-- a place is picked where one can be
picked_place : (places : List ℕ) (k : ℕ) → 0 < length places → slice_get places (k % length places) ≡ Some (get_or places (k % length places) 0)
picked_place places k some = slice_get-get_or places (k % length places) 0 (mod_below k (length places) some)

pub loop-alloc-smaller : goal.loop-alloc-smaller
loop-alloc-smaller g c =
    (c.pick.ensures.pick _ (picked_place (ready_places c.loop-alloc.world) c.next-k.result (c.done.ensures.ready c.loop-alloc-test.true))).fewer

pub loop-alloc-preserved : goal.loop-alloc-preserved
loop-alloc-preserved g c = record {
  script = (c.pick.ensures.pick _ (picked_place (ready_places c.loop-alloc.world) c.next-k.result (c.done.ensures.ready c.loop-alloc-test.true))).script_is ∙ c.loop-alloc.invariant.script;
}

pub returns-clause-done : goal.returns-clause-done
returns-clause-done g c = c.done.ensures.done c.loop-alloc-test.false
