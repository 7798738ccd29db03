-- What was not handed over yet is the rest, and each turn takes a byte or ends.
use Rattle.std.proofs.Common.{length}
use Rattle.hv_io.specs.Seen.{seen}
use Rattle.hv_io.specs.Putting.{Underway}
use Rattle.hv_io.proofs.writing.put.Given as goal

abbrev pub invariant-loop-rest : goal.invariant-loop-rest
invariant-loop-rest g l =
    Underway (seen g.K.Sink l.fn.out) l.fn.bytes (seen g.K.Sink l.out) l.rest

abbrev pub decreases-loop-rest : goal.decreases-loop-rest
decreases-loop-rest g l = length l.rest
