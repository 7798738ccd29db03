use Rattle.std.proofs.Common.{◌≡◌, [], Bool, true, false, not, get_or, refl, sym, subst, ◌∙◌, rules}
use Rattle.std.specs.Cmp.Lexicographic.{other_text}
use Rattle.sha2.specs.Sha256.{sha256}
use Rattle.hv_dev.specs.Reading.{IsPageOf}
use Rattle.hv_world.specs.Reads.{first_bytes}
use Rattle.hv_world.specs.Damage.{ServesChunk}
use Rattle.hv_world.proofs.Landed.{none_since, brought_last, one_serves, as_written, other_digest}
use Rattle.hv_world.proofs.pages.read_page.Goals as goal

unequal : (same : Bool) → true ≡ not same → false ≡ same
unequal true e = sym e
unequal false e = refl

-- the read failed, and nothing landed
pub returns-then-not-read-clause-reads_chunk : goal.returns-then-not-read-clause-reads_chunk
returns-then-not-read-clause-reads_chunk g c =
    let lost = c.read.ensures.read.lost c.if-not-read.true in
    (lost.1, none_since (λ place read. ServesChunk (g.C.ChunkView.viewed c.args.chunk.now) read) _ _ lost.0)

-- the bytes that landed have another digest
pub returns-then-ne-clause-reads_chunk : goal.returns-then-ne-clause-reads_chunk
returns-then-ne-clause-reads_chunk g c =
    let read = c.read.ensures.read in
    let bytes = first_bytes c.read.new.self.frames.items in (
      read.calm c.if-not-read.false,
      other_digest _ g.P.File.PageFile.pages c.args.number (g.C.ChunkView.viewed c.args.chunk.now) _ _ _ c.args.page bytes c.bytes.result.now c.digest_of-recorded.result c.digest-found.result c.requires.built c.requires.within
          (c.in_ok-file.ensures ∙ c.file.ensures) (λ told. read.true_page told c.if-not-read.false) (read.brought c.if-not-read.false) c.bytes.ensures.same c.digest_of-recorded.ensures c.digest-found.ensures
          (other_text _ _ (unequal _ (sym c.if-ne.true ∙ c.ne.ensures))),
    )

pub returns-clause-brought : goal.returns-clause-brought
returns-clause-brought g c = brought_last _ _ _ (g.C.ChunkView.viewed c.args.chunk.now).file (c.in_ok-file.ensures ∙ c.file.ensures) (c.read.ensures.read.brought c.if-not-read.false)

-- where the content is known they are the page as it was written
pub returns-clause-page : goal.returns-clause-page
returns-clause-page g c =
    let read = c.read.ensures.read in
    let bytes = first_bytes c.read.new.self.frames.items in
    let digest : sha256 bytes ≡ get_or (g.C.ChunkView.viewed c.args.chunk.now).digests c.args.page [] = search rules in
    let of = c.in_ok-file.ensures ∙ c.file.ensures in
    let landed = brought_last _ _ _ (g.C.ChunkView.viewed c.args.chunk.now).file of (read.brought c.if-not-read.false) in
    as_written _ g.P.File.PageFile.pages (g.C.ChunkView.viewed c.args.chunk.now) c.args.page bytes _ landed.brought.place landed.brought.read c.requires.built c.requires.within
    (λ told. subst (λ file. IsPageOf (g.P.File.PageFile.pages file) c.args.page bytes) of (read.true_page told c.if-not-read.false)) landed.brought.stands landed.are digest

-- and they have its digest
pub returns-clause-reads_chunk : goal.returns-clause-reads_chunk
returns-clause-reads_chunk g c =
    let read = c.read.ensures.read in
    let bytes = first_bytes c.read.new.self.frames.items in
    let digest : sha256 bytes ≡ get_or (g.C.ChunkView.viewed c.args.chunk.now).digests c.args.page [] = search rules in
    (read.calm c.if-not-read.false, one_serves (g.C.ChunkView.viewed c.args.chunk.now) _ _ _ c.args.page bytes (c.in_ok-file.ensures ∙ c.file.ensures) c.requires.within digest (read.brought c.if-not-read.false))
