-- With the last page behind the others, all pages of the rows stand in the file.
use Rattle.std.proofs.Common.{◌≡◌, Some, List, [], length, ap, sym, subst, ◌∙◌, arith}
use Rattle.std.specs.Option.{is_some}
use Rattle.std.specs.Arc.{arc_value}
use Rattle.hv_row.specs.declared.value.Value.{Value}
use Rattle.hv_page.specs.Layout.{written_version}
use Rattle.hv_view.specs.View.{IsBuilt, Viewed}
use Rattle.hv_chunk.specs.Building.{Building, rows_on}
use Rattle.hv_chunk.specs.Keeping.{IsWhole}
use Rattle.hv_chunk.proofs.Keeping.{now_length, built_whole, rows_standing}
use Rattle.hv_chunk.proofs.builder.ChunkBuilder.finish.Given.{Over}
use Rattle.hv_chunk.proofs.builder.ChunkBuilder.finish.Goals.{In_ok-put_last}
use Rattle.hv_chunk.proofs.builder.ChunkBuilder.finish.Goals as goal

-- the pages in the open file are the builder's
mine : (g : Over) (c : In_ok-put_last g) → g.P.PageSink.written c.args.port.now ≡ Some c.self.inside.pages
mine g c = c.requires.mine ∙ ap (λ (b : Building). Some b.pages) (sym c.self.view_is)

-- all pages of the rows stand in the open file
whole : (g : Over) (c : In_ok-put_last g) → IsWhole (record { schema = c.self.inside.schema; rows = rows_on c.self.inside.schema c.self.inside.pages c.self.inside.writer.entries; pages = c.self.inside.pages }) c.put_last.new.digests.items (g.P.PageSink.written c.put_last.new.port)
whole g c = c.in_ok-put_last.ensures.whole _ c.self.invariant (mine g c)

pub put_last-requires-clause-page : goal.put_last-requires-clause-page
put_last-requires-clause-page g c = now_length _ _ _ _ c.self.invariant

pub seal-requires : goal.seal-requires
seal-requires g c = record { good = ap is_some (whole g (goal.at.seal-requires g c).In_ok-put_last).open_is }

pub overflow_cast-result : goal.overflow_cast-result
overflow_cast-result g c = omega (arith, c.len.ensures, (whole g (goal.at.overflow_cast-result g c).In_ok-put_last).few)

pub returns-in-Ok-clause-built : goal.returns-in-Ok-clause-built
returns-in-Ok-clause-built g c =
    let inside = c.self.inside in
    let at = (goal.at.returns-in-Ok-clause-built g c).In_ok-put_last in
    let count : c.len.result ≡ length c.put_last.new.digests.items = omega (arith, c.len.ensures) in
    let rows = rows_standing inside.schema _ _ _ c.put_last.new.pages (whole g at) (c.in_ok-put_last.ensures.noted (mine g at)) in
    let chunk : List (List Value) → Viewed g.row.P-File.Denot = λ rows. record { version = written_version; rows = rows; schema = inside.schema; digests = c.put_last.new.digests.items; heap_pages = c.len.result; row_count = inside.row_count; file = arc_value c.in-Ok.file } in
    subst (λ (b : Building). IsBuilt {File = g.row.P-File.Denot} g.P.File.PageFile.tells g.P.File.PageFile.pages b.schema b.rows (chunk (rows_on inside.schema c.put_last.new.pages []))) c.self.view_is
    (subst (λ (rows : List (List Value)). IsBuilt {File = g.row.P-File.Denot} g.P.File.PageFile.tells g.P.File.PageFile.pages inside.schema (rows_on inside.schema inside.pages inside.writer.entries) (chunk rows)) (sym rows)
    (built_whole g.P.File.PageFile.tells g.P.File.PageFile.pages _ _ c.len.result inside.row_count (arc_value c.in-Ok.file) _ (whole g at) c.self.invariant.counted count c.in-Ok.ensures.pages))
