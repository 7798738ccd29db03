-- What a clause sees of a sink, by the sink's bound.
use Rattle.hv_io.specs.declared.sink.Sink.{Ghosts}
use Rattle.hv_io.specs.Bytes.{Seen}

-- as `seen K.Sink out.old`
abbrev pub seen : {K : Type 0} → Ghosts K → K → Seen
seen k out = record { taken = k.taken out; faults = k.faults out; zeros = k.zeros out }
