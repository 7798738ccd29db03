-- a text ends at a quote that no quote follows
use Rattle.std.proofs.Common.{subst, Bool}
use Rattle.hv_sql.proofs.LexingQuotes.{SoFar, so_far_stop}
use Rattle.hv_sql.proofs.lexing.closing_len.Goals as goal

pub returns-then-pending-2-clause-longest : goal.returns-then-pending-2-clause-longest
returns-then-pending-2-clause-longest c =
    let h = subst (λ (p : Bool). SoFar c.args.behind.now c.loop-at.at c.loop-at.end p) c.if-pending-2.true c.loop-at.invariant in
    so_far_stop c.args.behind.now c.loop-at.at c.loop-at.end c.loop-at-test.true c.if-byte-eq39.false h
