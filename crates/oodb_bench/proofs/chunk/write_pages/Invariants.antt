use Rattle.std.proofs.Common.{◌≡◌, length, IsSome}
use Rattle.oodb_bench.proofs.chunk.write_pages.Given as goal

-- the sink's file is open
abbrev pub invariant-loop : goal.invariant-loop
invariant-loop g l = record { whole : length l.page ≡ 4096; open_still : IsSome (g.P.PageSink.written l.port) }
