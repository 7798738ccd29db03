-- Each page that was written has its digest.
use Rattle.std.proofs.Common.{length, ap, arith}
use Rattle.hv_chunk.specs.Building.{Building}
use Rattle.hv_chunk.proofs.Keeping.{digests_within, digests_count}
use Rattle.hv_chunk.proofs.builder.ChunkBuilder.pages_written.Goals as goal

pub overflow_cast-result : goal.overflow_cast-result
overflow_cast-result c = omega (arith, c.len.ensures, digests_within _ _ _ _ c.self.invariant, c.self.invariant.few)

pub returns : goal.returns
returns c = omega (arith, c.len.ensures, digests_count _ _ _ _ c.self.invariant, ap (λ (b : Building). length b.pages) c.self.view_is)
