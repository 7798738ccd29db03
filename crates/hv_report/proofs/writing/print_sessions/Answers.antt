-- The session at the index is the next part, and its numbers are in range.
use Rattle.std.proofs.Common.{ap}
use Rattle.std.proofs.lemmas.List.Elements.{All-more}
use Rattle.hv_model.specs.Report.{sessions_text}
use Rattle.hv_report.specs.Law.{SessionInRange}
use Rattle.hv_report.specs.Text.{names_of, replies_of}
use Rattle.hv_report.proofs.PrintedParts.{item_next, printed_next}
use Rattle.hv_report.proofs.writing.print_sessions.Goals as goal

pub loop-session-preserved : goal.loop-session-preserved
loop-session-preserved g c =
    let next = item_next c.args.sessions.now c.loop-session.session-index c.session-item.result c.loop-session-test.true c.session-item.is in
    let one = rw (c.as_slice.ensures, c.as_slice-in-loop-session.ensures) at c.print_session.ensures.prints in
    let count = rw c.as_slice-in-loop-session.ensures at c.print_session.ensures.count in
    let replies = rw c.as_slice-in-loop-session.ensures at c.print_session.ensures.in_range in
    let ranged : SessionInRange c.session-item.result = record { count = count; replies = replies } in
    let here = rw c.session-item.is at ranged in
    record {
      printed = printed_next _ _ _ _ _ _ _ _ _ _ c.loop-session.invariant.printed (ap (λ sessions. sessions_text (names_of sessions) (replies_of sessions)) next) one;
      in_range = All-more SessionInRange c.args.sessions.now c.loop-session.session-index c.session-item.result c.loop-session-test.true c.loop-session.invariant.in_range here;
    }
