-- the chunk of the page is the one at the position
use Rattle.std.proofs.Common.{◌≡◌, ◌<◌, Ok, Err, refl, sym, ap, subst, ◌∙◌}
use Rattle.hv_view.specs.View.{Viewed, IsBuilt}
use Rattle.hv_view.specs.Known.{ChunkIsKnown}
use Rattle.hv_view.specs.declared.held.HeldChunk.{HeldChunk}
use Rattle.hv_view.specs.declared.held.HeldTable.{HeldTable}
use Rattle.hv_world.specs.Answer.{TableStands}
use Rattle.hv_world.specs.Damage.{ReadsChunk}
use Rattle.hv_world.specs.Reads.{port_seen}
use Rattle.hv_world.specs.RowsRead.{AddsPage}
use Rattle.hv_world.specs.Selecting.{ReadsNext}
use Rattle.hv_world.proofs.HeldTables.{all_stands}
use Rattle.hv_world.proofs.Landed.{handed_on}
use Rattle.hv_world.proofs.Selecting.{page_here}
use Rattle.hv_world.proofs.select.read_next.Goals as goal

pub read_rows-requires-clause-built : goal.read_rows-requires-clause-built
read_rows-requires-clause-built g c =
    let job = c.args.job.now in
    let at = c.requires.at in
    let h = c.index-as_slice-job.result in
    let same : h ≡ at.chunk = page_here job at c.as_slice.result.now c.len.result c.index-as_slice-len.result c.as_slice-2.result.now h c.as_slice.ensures c.len.ensures c.index-as_slice-len.is
    (c.as_slice-2.ensures ∙ ap (λ (t : HeldTable (Viewed _)). t.chunks) (sym c.index-as_slice-len.is)) c.index-as_slice-job.is in
    let view : c.get.result.now ≡ at.chunk.view = c.get.ensures ∙ ap (λ (h : HeldChunk (Viewed _)). h.view) same in
    let table = all_stands (TableStands g.P.File.PageFile.tells g.P.File.PageFile.pages) job.view.tables _ at.table c.requires.placed.stands at.of_table in
    let built = all_stands (λ h. IsBuilt g.P.File.PageFile.tells g.P.File.PageFile.pages h.view.schema h.view.rows h.view) at.table.chunks job.chunk at.chunk table at.of_chunk in
    subst (λ (v : Viewed _). IsBuilt g.P.File.PageFile.tells g.P.File.PageFile.pages v.schema v.rows v) (sym view) built

pub read_rows-requires-clause-within : goal.read_rows-requires-clause-within
read_rows-requires-clause-within g c =
    let job = c.args.job.now in
    let at = c.requires.at in
    let h = c.index-as_slice-job.result in
    let same : h ≡ at.chunk = page_here job at c.as_slice.result.now c.len.result c.index-as_slice-len.result c.as_slice-2.result.now h c.as_slice.ensures c.len.ensures c.index-as_slice-len.is
    (c.as_slice-2.ensures ∙ ap (λ (t : HeldTable (Viewed _)). t.chunks) (sym c.index-as_slice-len.is)) c.index-as_slice-job.is in
    let view : c.get.result.now ≡ at.chunk.view = c.get.ensures ∙ ap (λ (h : HeldChunk (Viewed _)). h.view) same in
    subst (λ (v : Viewed _). job.page < v.heap_pages) (sym view) at.of_page

pub returns-in_err-read_rows-clause-read : goal.returns-in_err-read_rows-clause-read
returns-in_err-read_rows-clause-read g c =
    let tells = g.P.File.PageFile.tells in
    let job = c.args.job.now in
    let at = c.requires.at in
    let port = port_seen g.P.PageSink c.args.access.now.port in
    let new = port_seen g.P.PageSink c.read_rows.new.access.port in
    let h = c.index-as_slice-job.result in
    let same : h ≡ at.chunk = page_here job at c.as_slice.result.now c.len.result c.index-as_slice-len.result c.as_slice-2.result.now h c.as_slice.ensures c.len.ensures c.index-as_slice-len.is
    (c.as_slice-2.ensures ∙ ap (λ (t : HeldTable (Viewed _)). t.chunks) (sym c.index-as_slice-len.is)) c.index-as_slice-job.is in
    let view : c.get.result.now ≡ at.chunk.view = c.get.ensures ∙ ap (λ (h : HeldChunk (Viewed _)). h.view) same in
    let number : h.chunk ≡ at.chunk.chunk = ap (λ (h : HeldChunk (Viewed _)). h.chunk) same in
    let cause = c.in_err-read_rows.field-0.0 in
    handed_on c.from_residual.result cause (λ r. ReadsNext tells job (record job { rows = c.read_rows.new.out }) port new r) c.from_residual.ensures.1
    (record {
      at = at;
      reads = c.in_err-read_rows.ensures.reads;
      faults = c.in_err-read_rows.ensures.faults;
      kept = c.in_err-read_rows.ensures.kept;
      reads_chunk = subst (λ n. ReadsChunk tells n at.chunk.view port.reading new.reading (Err cause)) number
          (subst (λ (v : Viewed _). ReadsChunk tells h.chunk v port.reading new.reading (Err cause)) view c.in_err-read_rows.ensures.reads_chunk);
      rows = tt;
      is = tt;
    })

pub returns-clause-read : goal.returns-clause-read
returns-clause-read g c =
    let tells = g.P.File.PageFile.tells in
    let job = c.args.job.now in
    let at = c.requires.at in
    let port = port_seen g.P.PageSink c.args.access.now.port in
    let new = port_seen g.P.PageSink c.read_rows.new.access.port in
    let h = c.index-as_slice-job.result in
    let same : h ≡ at.chunk = page_here job at c.as_slice.result.now c.len.result c.index-as_slice-len.result c.as_slice-2.result.now h c.as_slice.ensures c.len.ensures c.index-as_slice-len.is
    (c.as_slice-2.ensures ∙ ap (λ (t : HeldTable (Viewed _)). t.chunks) (sym c.index-as_slice-len.is)) c.index-as_slice-job.is in
    let view : c.get.result.now ≡ at.chunk.view = c.get.ensures ∙ ap (λ (h : HeldChunk (Viewed _)). h.view) same in
    let number : h.chunk ≡ at.chunk.chunk = ap (λ (h : HeldChunk (Viewed _)). h.chunk) same in record {
      at = at;
      reads = c.in_ok-read_rows.ensures.reads;
      faults = c.in_ok-read_rows.ensures.faults;
      kept = c.in_ok-read_rows.ensures.kept;
      reads_chunk = subst (λ n. ReadsChunk tells n at.chunk.view port.reading new.reading (Ok tt)) number
          (subst (λ (v : Viewed _). ReadsChunk tells h.chunk v port.reading new.reading (Ok tt)) view c.in_ok-read_rows.ensures.reads_chunk);
      rows = subst (λ (v : Viewed _). ChunkIsKnown tells v new.reading.landings → AddsPage v job.page job.rows c.read_rows.new.out) view c.in_ok-read_rows.ensures.rows;
      is = refl;
    }
