-- What was read so far was taken off the source, with no fault.
use Rattle.std.proofs.Common.{◌≡◌, ◌-◌, ◌≤◌, vec_len}
use Rattle.hv_io.specs.Bytes.{Consumes}
use Rattle.hv_script.proofs.reading.read_all.Given as goal

abbrev pub invariant-loop-all : goal.invariant-loop-all
invariant-loop-all g l = record {
  known : Consumes (g.S.Source.left l.fn.source) (g.S.Source.left l.source) l.all.items;
  size : vec_len l.all ≤ 67108865;
  calm : g.S.Source.faults l.source ≡ g.S.Source.faults l.fn.source;
  piece : vec_len l.piece ≡ 65536;
}

abbrev pub decreases-loop-all : goal.decreases-loop-all
decreases-loop-all g l = 67108865 - vec_len l.all
