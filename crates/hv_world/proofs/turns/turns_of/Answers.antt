-- one more phase, and all of them
use Rattle.std.proofs.Common.{◌≡◌, length, refl, sym, ap, arith}
use Rattle.std.proofs.lemmas.Option.{slice_get_read}
use Rattle.hv_world.proofs.TurnPlaces.{turns_all}
use Rattle.hv_world.proofs.turns.turns_of.Goals as goal

pub loop-at-preserved : goal.loop-at-preserved
loop-at-preserved c =
    let stands = slice_get_read c.as_slice-phase-items.result.now (length c.as_slice-phase-items.result.now) c.loop-at.at c.phase-item.result refl c.loop-at-test.true c.phase-item.is in
    c.in_ok-add_turns.ensures c.args.script.now (rw (c.as_slice.ensures, sym c.as_slice-phase-items.ensures) stands) c.loop-at.invariant

pub returns : goal.returns
returns c =
    let same : length c.as_slice-phase-items.result.now ≡ length c.args.script.now.phases = ap (λ xs. length xs) c.as_slice-phase-items.ensures in
    turns_all c.args.script.now c.args.name.now c.loop-at.at c.loop-at.turns.items (omega (arith, c.loop-at-test.false)) c.loop-at.invariant
