-- Where there is a row, the last page and its digest are behind the others; then all pages of the rows stand in the file.
use Rattle.std.proofs.Common.{◌∷◌, ◌++◌, [], ℕ, List, Some, length, ap, sym, ◌∙◌, arith}
use Rattle.hv_chunk.proofs.Keeping.{whole_with, whole_without, so_too}
use Rattle.hv_chunk.proofs.builder.put_last.Goals as goal

pub digest-requires : goal.digest-requires
digest-requires g c = ap length c.page-page.ensures ∙ c.requires.page

pub as_page-requires : goal.as_page-requires
as_page-requires g c = ap length c.page-page.ensures ∙ c.requires.page

pub put-requires-clause-page : goal.put-requires-clause-page
put-requires-clause-page g c = ap length c.page-page.ensures ∙ c.requires.page

pub returns-then-row_count-eq0-clause-whole : goal.returns-then-row_count-eq0-clause-whole
returns-then-row_count-eq0-clause-whole g c = λ building kept mine. whole_without _ building _ _ _ kept (omega arith) mine

pub returns-clause-whole : goal.returns-clause-whole
returns-clause-whole g c = so_too c.put.result c.put.ensures.more (λ more building kept mine.
    whole_with _ building _ _ _ c.page-page.result.now _ kept (omega arith) c.page-page.ensures
    (c.in-Ok.ensures.items ∙ ap (λ (d : List ℕ). c.args.digests.now.items ++ d ∷ []) c.digest.ensures) (more building.pages mine))

pub returns-clause-noted : goal.returns-clause-noted
returns-clause-noted g c = so_too c.put.result c.put.ensures.more (λ more mine.
    more c.args.pages.now mine ∙ ap (λ (pages : List (List ℕ)). Some pages) (sym (c.note.ensures ∙ ap (λ (p : List ℕ). c.args.pages.now ++ p ∷ []) c.as_page.ensures)))
