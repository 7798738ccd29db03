use Rattle.std.proofs.Common.{◌≡◌, map, take}
use Rattle.hv_catalogue.specs.Holding.{held_chunk}
use Rattle.hv_catalogue.specs.Stored.{chunk_of}
use Rattle.hv_catalogue.proofs.stored.held_at.Given as goal

abbrev pub invariant-loop-place : goal.invariant-loop-place
invariant-loop-place g l = l.chunks ≡ map held_chunk (take l.place (map chunk_of l.table.chunks.entries))
