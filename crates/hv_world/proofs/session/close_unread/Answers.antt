-- one port comes back, and then all are back
use Rattle.std.proofs.Common.{length, ℕ, List, ap, subst, ◌∙◌, arith}
use Rattle.std.proofs.lemmas.List.{length_push}
use Rattle.hv_model.proofs.Places.{slice_get-kept, slice_get-last}
use Rattle.hv_world.specs.Reads.{PortSeen}
use Rattle.hv_world.specs.World.{ports_out}
use Rattle.hv_world.specs.Unused.{IsUnused}
use Rattle.hv_world.proofs.UnreadPorts.{unused_back, unused_all}
use Rattle.hv_world.proofs.session.close_unread.Goals as goal

pub loop-session-preserved : goal.loop-session-preserved
loop-session-preserved g c =
    let were = c.in-Some.ensures.items in
    let left = c.pop.new.self.items in
    let last = c.loop-session.invariant.0 (length left) c.in-Some.session (rw were (slice_get-last left c.in-Some.session)) in
    let port = c.close-port.ensures.port in (
      (λ i q at. c.loop-session.invariant.0 i q (rw were (slice_get-kept left c.in-Some.session i q at))),
      λ before was.
          let so_far = c.loop-session.invariant.1 before was in
          let one_more = length_push left c.in-Some.session in
          let now = unused_back before (g.D.Device.returned c.loop-session.dev) (length left)
          (subst (λ (n : ℕ). IsUnused (ports_out n before) (g.D.Device.returned c.loop-session.dev)) (ap (λ (xs : List _). length xs) were ∙ one_more) so_far) in
          rw (c.back.ensures, port, ap (λ (p : PortSeen _). p.reading) last, ap (λ (p : PortSeen _). p.write_faults) last) now,
    )

pub returns : goal.returns
returns g c = λ before was. unused_all before (g.D.Device.returned c.loop-session.dev) (length c.loop-session.sessions.items) (omega (arith, c.in_default.ensures.cases.0, c.loop-session.sessions.ok.0)) (c.loop-session.invariant.1 before was)
