-- one more session is reported, and then all are
use Rattle.std.proofs.Common.{◌≡◌, List, reverse, length, refl, sym, ap, ◌∙◌, arith}
use Rattle.std.proofs.lemmas.List.{length_push, reverse-reverse, length-reverse}
use Rattle.hv_model.proofs.Places.{slice_get-kept, slice_get-last}
use Rattle.hv_world.specs.Turns.{replies_of}
use Rattle.hv_world.proofs.FilledSessions.{idle_reversed, reported_more, reported_all, back_more}
use Rattle.hv_world.proofs.report.Blank.filled.Goals as goal

pub loop-session-init : goal.loop-session-init
loop-session-init g c =
    let names = c.args.names.items in
    let sessions = c.args.sessions.items in
    let were = c.reverse-2.ensures.items in
    record {
      told = rw (c.args.self.none, c.reverse.ensures.items, were, reverse-reverse names, reverse-reverse sessions) refl;
      back = rw (were, reverse-reverse sessions) refl;
      paired = rw (were, c.reverse.ensures.items) (length-reverse sessions ∙ c.requires.paired ∙ sym (length-reverse names));
      idle = rw were (idle_reversed g.D.Port.PageSink sessions c.requires.idle);
      room = omega (arith, c.args.self.room, c.requires.few, c.requires.paired, ap (λ (xs : List _). length xs) c.args.self.none, ap (λ (xs : List _). length xs) were, length-reverse sessions);
    }

pub back-requires : goal.back-requires
back-requires g c =
    let left = c.pop.new.self.items in
    rw c.close-port.ensures.port (c.loop-session.invariant.idle (length left) c.in-Some.session (rw c.in-Some.ensures.items (slice_get-last left c.in-Some.session)))

pub loop-session-preserved : goal.loop-session-preserved
loop-session-preserved g c =
    let q = c.in-Some.session in
    let left = c.pop.new.self.items in
    let names = c.pop-in-Some.new.self.items in
    let were = c.in-Some.ensures.items in
    let named = rw c.unwrap-name.ensures at c.pop-in-Some.ensures.items in
    let so_far = c.loop-session.invariant in
    let told = rw (named, were) at so_far.told in
    let back = rw were at so_far.back in
    let of_sessions = ap (λ (xs : List _). length xs) were ∙ length_push left q in
    let of_names = ap (λ (xs : List _). length xs) named ∙ length_push names c.unwrap-name.result in
    record {
      told = rw (c.push_reserved.ensures.items, c.from_vec.ensures, c.close-port.ensures.replies)
          (sym (reported_more c.loop-session.reports.items names c.unwrap-name.result left q) ∙ told);
      back = rw (c.back.ensures, c.close-port.ensures.port) (sym (back_more g.D.Port.PageSink (g.D.Device.returned c.loop-session.dev) left q) ∙ back);
      paired = omega (arith, so_far.paired, of_sessions, of_names);
      idle = λ i r at. so_far.idle i r (rw were (slice_get-kept left q i r at));
      room = omega (arith, so_far.room, of_sessions, c.push_reserved.ensures.capacity, c.push_reserved.ensures.len, c.push_reserved.new.self.ok.0, c.loop-session.reports.ok.0);
    }

pub returns-clause-sessions : goal.returns-clause-sessions
returns-clause-sessions g c =
    let so_far = c.loop-session.invariant in
    let none : length c.loop-session.names.items ≡ 0 = omega (arith, so_far.paired, c.in_default.ensures.cases.0, c.loop-session.sessions.ok.0) in
    c.from_vec-2.ensures
    ∙ sym (reported_all c.loop-session.reports.items c.loop-session.names.items (replies_of (reverse c.loop-session.sessions.items)) none)
    ∙ so_far.told
