-- one more session, and all of them
use Rattle.std.proofs.Common.{◌≡◌, ℕ, List, ◌++◌, ◌∷◌, [], true, false, length, drop, refl, sym, ap, ◌∙◌, arith, append-nil, append_assoc, length-append}
use Rattle.std.proofs.lemmas.List.{drop_all}
use Rattle.std.proofs.lemmas.Option.{slice_get_read}
use Rattle.hv_world.specs.World.{ready_from}
use Rattle.hv_world.specs.Turns.{is_due, replies_of}
use Rattle.hv_world.proofs.ReadyPlaces.{ready_at}
use Rattle.hv_world.proofs.ready.fill_ready.Goals.{then-is_due, else-is_due}
use Rattle.hv_world.proofs.ready.fill_ready.Goals as goal

pub loop-at-preserved : goal.loop-at-preserved
loop-at-preserved g c =
    let stands = slice_get_read c.args.sessions.now (length c.args.sessions.now) c.loop-at.at c.index-sessions-at.result refl c.loop-at-test.true c.index-sessions-at.is in
    elim c.if-is_due.branch [
      | then-is_due w ↦ rw (w.ready-is, w.push_reserved.ensures.items) (
        (λ s have. append_assoc c.loop-at.ready.items (c.loop-at.at ∷ []) _
            ∙ ap (λ l. c.loop-at.ready.items ++ l)
            (sym (ready_at s c.args.phase c.loop-at.at c.args.sessions.now c.index-sessions-at.result true have stands (sym (c.is_due.ensures ∙ ap (λ t. is_due t c.args.phase) c.next.ensures) ∙ w.if-is_due.true)))
            ∙ c.loop-at.invariant.0 s have),
        (let kept = c.loop-at.invariant.1 in let pushed = length-append c.loop-at.ready.items (c.loop-at.at ∷ []) in omega arith),
        w.push_reserved.ensures.capacity ∙ c.loop-at.invariant.2,
      )
      | else-is_due w ↦ rw w.ready-is (
        (λ s have. ap (λ l. c.loop-at.ready.items ++ l)
            (sym (ready_at s c.args.phase c.loop-at.at c.args.sessions.now c.index-sessions-at.result false have stands (sym (c.is_due.ensures ∙ ap (λ t. is_due t c.args.phase) c.next.ensures) ∙ w.if-is_due.false)))
            ∙ c.loop-at.invariant.0 s have),
        (let kept = c.loop-at.invariant.1 in omega arith),
        c.loop-at.invariant.2,
      )
    ]

pub returns-clause-ready : goal.returns-clause-ready
returns-clause-ready g c s have =
    let paired = have.paired in
    let kept = c.loop-at.invariant.0 s have in
    let none : drop c.loop-at.at s.sessions ≡ [] = drop_all c.loop-at.at s.sessions (omega (arith, paired, c.loop-at-test.false)) in
    sym (append-nil c.loop-at.ready.items)
    ∙ ap (λ (names : List (List ℕ)). c.loop-at.ready.items ++ ready_from s c.args.phase c.loop-at.at names (replies_of (drop c.loop-at.at c.args.sessions.now))) (sym none)
    ∙ kept
