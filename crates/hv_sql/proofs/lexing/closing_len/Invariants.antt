-- A text goes up to `end`, of the bytes so far.
use Rattle.hv_sql.proofs.LexingQuotes.{SoFar}
use Rattle.hv_sql.proofs.lexing.closing_len.Given as goal

abbrev pub invariant-loop-at : goal.invariant-loop-at
invariant-loop-at l = SoFar l.behind l.at l.end l.pending
