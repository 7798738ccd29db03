-- a chunk without a page left is passed over, and behind the last one all rows are read
use Rattle.std.proofs.Common.{◌≡◌, Some, arith, refl, length, sym, ap, ◌∙◌}
use Rattle.std.specs.Prelude.{slice_get}
use Rattle.std.proofs.lemmas.Option.{slice_get_read}
use Rattle.hv_view.specs.View.{Viewed, IsBuilt}
use Rattle.hv_view.specs.declared.held.HeldChunk.{HeldChunk}
use Rattle.hv_world.proofs.HeldTables.{all_stands}
use Rattle.hv_world.proofs.Selecting.{leads_first, leads_on, leads_past}
use Rattle.hv_world.proofs.tables.next_page.Goals as goal

pub loop-at-init : goal.loop-at-init
loop-at-init g c = leads_first c.args.table.now c.args.chunk c.args.page

pub loop-at-preserved : goal.loop-at-preserved
loop-at-preserved g c =
    let items = c.as_slice-chunks.result.now in
    let h = c.index-chunks-at.result in
    let has : slice_get c.args.table.now.chunks c.loop-at.at ≡ Some h =
    ap (λ l. slice_get l c.loop-at.at) (sym c.as_slice-chunks.ensures) ∙ slice_get_read items (length items) c.loop-at.at h refl c.loop-at-test.true c.index-chunks-at.is in
    let built = all_stands (λ h. IsBuilt g.F.PageFile.tells g.F.PageFile.pages h.view.schema h.view.rows h.view) c.args.table.now.chunks c.loop-at.at h c.requires.stands has in
    let count : c.heap_pages.result ≡ h.view.heap_pages = c.heap_pages.ensures.same ∙ ap (λ (v : Viewed _). v.heap_pages) c.get.ensures ∙ ap (λ (h : HeldChunk (Viewed _)). h.view.heap_pages) (sym c.index-chunks-at.is) in
    leads_on c.args.table.now c.args.chunk c.args.page c.loop-at.at c.loop-at.behind h has built.recorded (omega (arith, c.if-behind-heap_pages.false, count)) c.loop-at.invariant

pub returns-then-behind-heap_pages-clause-there : goal.returns-then-behind-heap_pages-clause-there
returns-then-behind-heap_pages-clause-there g c =
    let items = c.as_slice-chunks.result.now in
    let h = c.index-chunks-at.result in
    let has : slice_get c.args.table.now.chunks c.loop-at.at ≡ Some h =
    ap (λ l. slice_get l c.loop-at.at) (sym c.as_slice-chunks.ensures) ∙ slice_get_read items (length items) c.loop-at.at h refl c.loop-at-test.true c.index-chunks-at.is in
    let count : c.heap_pages.result ≡ h.view.heap_pages = c.heap_pages.ensures.same ∙ ap (λ (v : Viewed _). v.heap_pages) c.get.ensures ∙ ap (λ (h : HeldChunk (Viewed _)). h.view.heap_pages) (sym c.index-chunks-at.is) in
    (h, has, omega (arith, c.if-behind-heap_pages.true, count), omega (arith, c.if-behind-heap_pages.true, c.heap_pages.type_inv))

pub returns-clause-leads : goal.returns-clause-leads
returns-clause-leads g c now first =
    leads_past c.args.table.now c.args.chunk c.args.page c.loop-at.at c.loop-at.behind (omega (arith, c.loop-at-test.false, ap length c.as_slice-chunks.ensures)) c.loop-at.invariant now first
