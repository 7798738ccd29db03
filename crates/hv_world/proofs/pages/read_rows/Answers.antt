use Rattle.hv_world.specs.Reads.{first_bytes}
use Rattle.hv_world.proofs.ReadRows.{adds_seen}
use Rattle.hv_world.proofs.Landed.{no_form}
use Rattle.hv_world.proofs.pages.read_rows.Goals as goal

-- what landed is no page of rows
pub returns-in-Err-clause-reads_chunk : goal.returns-in-Err-clause-reads_chunk
returns-in-Err-clause-reads_chunk g c =
    let read = c.in_ok-read_page.ensures in
    let form = c.in-Err.ensures in (
      read.reads_chunk.0,
      no_form _ g.P.File.PageFile.pages c.args.number (g.C.ChunkView.viewed c.args.chunk.now) _ _ c.args.page (first_bytes c.read_page.new.access.frames.items) c.bytes.result.now c.schema-schema.result.now c.in-Err.form.byte c.requires.built c.requires.within
          read.page read.brought read.reads_chunk.1 c.bytes.ensures.same c.schema-schema.ensures read.digest form.fault form.only,
    )

-- what landed is the page as it was written, where its content is known
pub returns-clause-rows : goal.returns-clause-rows
returns-clause-rows g c known pages heap entries has =
    adds_seen (g.C.ChunkView.viewed c.args.chunk.now).schema c.schema-schema.result.now pages c.args.page (first_bytes c.read_page.new.access.frames.items) c.bytes.result.now c.in-Ok.view entries _ _ c.schema-schema.ensures c.bytes.ensures.same
    (c.in_ok-read_page.ensures.page known pages heap) has c.in-Ok.ensures.only c.in_ok-push_rows-in-Ok.ensures
