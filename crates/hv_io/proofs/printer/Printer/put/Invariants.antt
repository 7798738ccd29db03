-- What is neither handed over nor held back yet is the rest, and each turn but the last makes a whole piece of it.
use Rattle.std.proofs.Common.{length, ◌+◌}
use Rattle.hv_io.specs.Seen.{seen}
use Rattle.hv_io.proofs.Buffering.{PutSoFar}
use Rattle.hv_io.proofs.printer.Printer.put.Given as goal

abbrev pub invariant-loop-self : goal.invariant-loop-self
invariant-loop-self g l =
    PutSoFar (seen g.K.Sink l.fn.out) l.fn.self l.fn.bytes (seen g.K.Sink l.out) l.self l.rest

abbrev pub decreases-loop-self : goal.decreases-loop-self
decreases-loop-self g l = length l.rest + length l.self.pending
