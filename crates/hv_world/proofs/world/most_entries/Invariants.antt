-- never more than a catalogue's most
use Rattle.std.proofs.Common.{◌≤◌}
use Rattle.hv_world.proofs.world.most_entries.Given as goal

abbrev pub invariant-loop-phase : goal.invariant-loop-phase
invariant-loop-phase l = l.most ≤ 65536
