-- one more statement, and all of the phase
use Rattle.std.proofs.Common.{◌≡◌, true, false, length, refl, sym, ◌∙◌, arith}
use Rattle.std.proofs.lemmas.Option.{slice_get_read}
use Rattle.hv_row.specs.Schema.{same_name}
use Rattle.hv_world.proofs.TurnPlaces.{turns_more, turns_other, turns_phase}
use Rattle.hv_world.proofs.turns.add_turns.Goals.{then-eq+in_ok-push, else-eq}
use Rattle.hv_world.proofs.turns.add_turns.Goals as goal

pub loop-place-preserved : goal.loop-place-preserved
loop-place-preserved c s at_p start =
    let stands = slice_get_read c.args.phase.now (length c.args.phase.now) c.loop-place.place c.index-phase-place.result refl c.loop-place-test.true c.index-phase-place.is in
    let so_far = c.loop-place.invariant s at_p start in
    elim c.if-eq.branch [
      | then-eq+in_ok-push w ↦ (let mine : same_name c.index-phase-place.result.session c.args.name.now ≡ true = rw (c.as_slice.ensures, c.as_slice-in-loop-place.ensures) at (sym c.eq.ensures ∙ w.if-eq.true) in
          rw (w.turns-is, w.in_ok-push.ensures.items)
          (turns_more s c.args.name.now c.args.at c.loop-place.place c.args.phase.now c.loop-place.turns.items c.index-phase-place.result at_p stands mine so_far))
      | else-eq w ↦ (let other : same_name c.index-phase-place.result.session c.args.name.now ≡ false = rw (c.as_slice.ensures, c.as_slice-in-loop-place.ensures) at (sym c.eq.ensures ∙ w.if-eq.false) in
          rw w.turns-is
          (turns_other s c.args.name.now c.args.at c.loop-place.place c.args.phase.now c.loop-place.turns.items c.index-phase-place.result stands other so_far))
    ]

pub returns : goal.returns
returns c s at_p start =
    turns_phase s c.args.name.now c.args.at c.loop-place.place c.args.phase.now c.loop-place.turns.items at_p (omega (arith, c.loop-place-test.false)) (c.loop-place.invariant s at_p start)
