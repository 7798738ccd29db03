-- one more session, all of them, and those that are closed again
use Rattle.std.proofs.Common.{◌≡◌, [], ℕ, ◌+◌, List, Some, length, inl, inr, refl, sym, ap, subst, ◌∙◌, arith, get_or}
use Rattle.std.specs.List.{slice_get}
use Rattle.std.proofs.lemmas.List.{length_push}
use Rattle.std.proofs.lemmas.Option.{slice_get_read, slice_get_within, slice_get-get_or}
use Rattle.hv_model.proofs.Places.{slice_get-more}
use Rattle.hv_dev.specs.Reading.{went}
use Rattle.hv_world.specs.Turns.{IsFreshSession}
use Rattle.hv_world.specs.World.{ports_out}
use Rattle.hv_world.proofs.UnreadPorts.{out_none, out_more, unused_out}
use Rattle.hv_world.proofs.session.open_sessions.Goals as goal

pub loop-name-init : goal.loop-name-init
loop-name-init g c = record {
  count = rw c.in_ok-sessions.ensures.items refl;
  within = omega arith;
  room = omega (arith, c.in_ok-sessions.ensures.capacity, c.len.ensures);
  each = λ i name q at_name at. absurd (omega (arith, slice_get_within c.in_ok-sessions.sessions.items i q at, c.in_ok-sessions.ensures.len, c.in_ok-sessions.sessions.ok.0));
  out = out_none (g.D.Device.returned c.args.dev.now);
}

pub push_reserved-requires : goal.push_reserved-requires
push_reserved-requires g c =
    let so_far = c.loop-name.invariant in
    let names = ap (λ (xs : List _). length xs) c.as_slice-name-items.ensures in
    omega (arith, so_far.count, so_far.room, c.loop-name-test.true, c.loop-name.sessions.ok.0, names)

pub close_unread-requires : goal.close_unread-requires
close_unread-requires g c = record {
  unread = λ i q at.
      let names = c.args.script.now.sessions in
      let so_far = c.loop-name.invariant in
      let below = slice_get_within c.loop-name.sessions.items i q at in
      (so_far.each i (get_or names i []) q (slice_get-get_or names i [] (omega (arith, below, so_far.count, so_far.within))) at).port;
}

pub returns-in-Err-clause-kept : goal.returns-in-Err-clause-kept
returns-in-Err-clause-kept g c =
    let before = g.D.Device.returned c.args.dev.now in
    c.close_unread.ensures before
    (unused_out (ports_out (length c.loop-name.sessions.items) before) (g.D.Device.returned c.open_session.new.dev)
    (c.in-Err.ensures.kept ∙ c.loop-name.invariant.out ∙ ap (λ (n : ℕ). ports_out n before) (sym c.loop-name.invariant.count)))

pub loop-name-preserved : goal.loop-name-preserved
loop-name-preserved g c =
    let so_far = c.loop-name.invariant in
    let names = ap (λ (xs : List _). length xs) c.as_slice-name-items.ensures in
    let read = slice_get_read c.as_slice-name-items.result.now (length c.as_slice-name-items.result.now) c.loop-name.name-index c.name-item.result refl c.loop-name-test.true c.name-item.is in
    record {
      count = rw c.push_reserved.ensures.items (length_push c.loop-name.sessions.items c.in-Ok.session ∙ ap (λ (n : ℕ). n + 1) so_far.count);
      within = omega (arith, c.loop-name-test.true, names);
      room = omega (arith, so_far.room, c.push_reserved.ensures.capacity);
      each = λ i name q at_name at.
          elim (slice_get-more c.loop-name.sessions.items c.in-Ok.session i q (rw (sym c.push_reserved.ensures.items) at)) [
            | inl old ↦ so_far.each i name q at_name old.stands
            | inr last ↦ (let stands = ap (λ (xs : List _). slice_get xs c.loop-name.name-index) (sym c.as_slice-name-items.ensures) ∙ read in
                let there : Some name ≡ Some c.name-item.result = sym at_name ∙ ap (λ (k : ℕ). slice_get c.args.script.now.sessions k) (last.at ∙ so_far.count) ∙ stands in
                let same_name : name ≡ c.name-item.result = cc in
                rw same_name (subst (λ t. IsFreshSession g.D.Port.PageSink c.args.script.now c.name-item.result t) last.same c.in-Ok.ensures.fresh))
          ];
      out = c.in-Ok.ensures.out ∙ ap went so_far.out ∙ out_more (g.D.Device.returned c.args.dev.now) c.loop-name.name-index;
    }

pub returns-clause-fresh : goal.returns-clause-fresh
returns-clause-fresh g c =
    let so_far = c.loop-name.invariant in
    let names = ap (λ (xs : List _). length xs) c.as_slice-name-items.ensures in
    record {
      paired = omega (arith, so_far.count, so_far.within, names, c.loop-name-test.false);
      each = so_far.each;
    }

pub returns-clause-out : goal.returns-clause-out
returns-clause-out g c =
    let so_far = c.loop-name.invariant in
    let names = ap (λ (xs : List _). length xs) c.as_slice-name-items.ensures in
    so_far.out ∙ ap (λ (n : ℕ). ports_out n (g.D.Device.returned c.args.dev.now)) (omega (arith, so_far.within, names, c.loop-name-test.false))
