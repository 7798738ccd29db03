-- The session of what follows is one that was named, or a new one.
use Rattle.std.proofs.Common.{refl, sym, ◌∙◌}
use Rattle.hv_script.proofs.SoFar.{found_name, no_name, old_stands, new_stands}
use Rattle.hv_script.proofs.so_far.SoFar.set_session.Goals as goal

pub returns-in-Some : goal.returns-in-Some
returns-in-Some c =
    old_stands c.args.self.now _ c.args.name.now c.requires.kept (found_name c.args.self.now.names c.args.name.now _ (sym (rw c.as_slice.ensures at c.place_of.ensures) ∙ c.in-Some.is)) refl refl refl refl refl

pub returns-then-len-eq-MAX_SESSIONS : goal.returns-then-len-eq-MAX_SESSIONS
returns-then-len-eq-MAX_SESSIONS c =
    (refl, no_name c.args.self.now.names c.args.name.now (sym (rw c.as_slice.ensures at c.place_of.ensures) ∙ c.in-None.is), sym c.len.ensures ∙ c.if-len-eq-MAX_SESSIONS.true)

pub returns-in_ok-add_session-in-None : goal.returns-in_ok-add_session-in-None
returns-in_ok-add_session-in-None c =
    let more = c.in_ok-add_session-in-None.ensures in
    let kept = c.add_session.ensures in
    new_stands c.args.self.now c.add_session.new.self c.args.name.now c.requires.kept c.requires.read (no_name c.args.self.now.names c.args.name.now (sym (rw c.as_slice.ensures at c.place_of.ensures) ∙ c.in-None.is))
    (λ full. c.if-len-eq-MAX_SESSIONS.false (c.len.ensures ∙ full)) more.names more.members more.at kept.ended kept.phase kept.count
