-- A row that was placed is kept with its page, where that was finished.
use Rattle.std.proofs.Common.{◌≡◌, ◌<◌, ◌∷◌, ◌++◌, [], ℕ, List, Some, length, ap, sym, subst, ◌∙◌, arith, inl, inr}
use Rattle.std.proofs.lemmas.List.{length-append}
use Rattle.sha2.specs.Sha256.{sha256}
use Rattle.hv_row.specs.declared.schema.Column.{Column}
use Rattle.hv_row.specs.Spelling.{IsSpelling}
use Rattle.hv_row.specs.Packed.{row_spelled}
use Rattle.hv_page.specs.Chunk.{IsStored}
use Rattle.hv_chunk.specs.Building.{Building, rows_on}
use Rattle.hv_chunk.proofs.Keeping.{kept_here, kept_next, rows_here, rows_next, rows_finished, done_length, stored_of, anyway, so_too}
use Rattle.hv_chunk.proofs.builder.ChunkBuilder.push_spelled.Given.{Over}
use Rattle.hv_chunk.proofs.builder.ChunkBuilder.push_spelled.Goals.{After-reserve, After-done-page, After-note, Else-placed}
use Rattle.hv_chunk.proofs.builder.ChunkBuilder.push_spelled.Goals as goal

-- the schema of the writer is the builder's
schema_is : (g : Over) (c : After-reserve g) → c.self.inside.writer.schema ≡ c.args.self.now.schema
schema_is g c = c.self.invariant.schema_is ∙ ap (λ (b : Building). b.schema) c.self.view_is

-- the row is one of at most 1,000,000
few : (g : Over) (c : After-reserve g) → c.self.inside.row_count < 1000000
few g c = omega (arith, c.self.invariant.counted, ap (λ (b : Building). length b.rows) c.self.view_is, c.requires.few)

-- a page may hold it
stored : (g : Over) (c : After-reserve g) → IsStored c.self.inside.schema (row_spelled c.self.inside.writer.schema c.args.entry.now)
stored g c = stored_of _ _ c.self.inside.writer.schema _ c.requires.spelling c.requires.short (ap (λ (b : Building). b.schema) c.self.view_is) c.self.invariant.schema_is

-- behind the builder's rows it is what `push_spelled` says
rows_are : (g : Over) (c : After-reserve g) → rows_on c.self.inside.schema c.self.inside.pages c.self.inside.writer.entries ++ row_spelled c.self.inside.writer.schema c.args.entry.now ∷ [] ≡ c.args.self.now.rows ++ row_spelled c.args.self.now.schema c.args.entry.now ∷ []
rows_are g c =
    ap (λ (b : Building). b.rows ++ row_spelled c.self.inside.writer.schema c.args.entry.now ∷ []) c.self.view_is
    ∙ ap (λ (s : List Column). c.args.self.now.rows ++ row_spelled s c.args.entry.now ∷ []) (schema_is g c)

-- the finished page is one
page_length : (g : Over) (c : After-done-page g) → length c.done-page.result.now ≡ 4096
page_length g c = done_length (row_spelled c.self.inside.writer.schema c.args.entry.now) c.add_spelled-placed.result c.done-page.result.now c.self.invariant c.add_spelled-placed.ensures c.if-placed.true c.done-page.ensures

-- it stands behind the others
pages_more : (g : Over) (c : After-note g) → c.note.new.self ≡ c.self.inside.pages ++ c.done-page.result.now ∷ []
pages_more g c = c.note.ensures ∙ ap (λ (p : List ℕ). c.self.inside.pages ++ p ∷ []) c.as_page.ensures

-- and so does its digest
digests_more : (g : Over) (c : After-note g) → c.push_reserved.new.self.items ≡ c.self.inside.digests.items ++ sha256 c.done-page.result.now ∷ []
digests_more g c =
    c.push_reserved.ensures.items
    ∙ ap (λ (d : List (List ℕ)). d ++ c.digest.result ∷ []) c.reserve.ensures.items
    ∙ ap (λ (d : List ℕ). c.self.inside.digests.items ++ d ∷ []) c.digest.ensures

-- so the row stands behind the others, on the page that begins
rows_next_is : (g : Over) (c : After-note g) → IsStored c.self.inside.schema (row_spelled c.self.inside.writer.schema c.args.entry.now) → rows_on c.self.inside.schema c.note.new.self c.add_spelled-placed.new.self.entries ≡ rows_on c.self.inside.schema c.self.inside.pages c.self.inside.writer.entries ++ row_spelled c.self.inside.writer.schema c.args.entry.now ∷ []
rows_next_is g c may =
    rows_next _ _ _ _ _ _ _ _ (row_spelled c.self.inside.writer.schema c.args.entry.now) c.add_spelled-placed.result c.done-page.result.now c.self.invariant may.fits c.add_spelled-placed.ensures c.if-placed.true c.done-page.ensures (pages_more g c)

-- or on the page that was being made
rows_here_is : (g : Over) (c : Else-placed g) → IsStored c.self.inside.schema (row_spelled c.self.inside.writer.schema c.args.entry.now) → rows_on c.self.inside.schema c.self.inside.pages c.add_spelled-placed.new.self.entries ≡ rows_on c.self.inside.schema c.self.inside.pages c.self.inside.writer.entries ++ row_spelled c.self.inside.writer.schema c.args.entry.now ∷ []
rows_here_is g c may =
    rows_here _ _ _ _ (row_spelled c.self.inside.writer.schema c.args.entry.now) c.add_spelled-placed.result c.self.invariant.schema_is may.fits c.add_spelled-placed.ensures c.if-placed.false

pub add_spelled-placed-requires-clause-spelling : goal.add_spelled-placed-requires-clause-spelling
add_spelled-placed-requires-clause-spelling g c =
    subst (λ (s : List Column). IsSpelling s c.args.entry.now) (sym (schema_is g (goal.at.add_spelled-placed-requires-clause-spelling g c).After-reserve)) c.requires.spelling

pub add_spelled-placed-requires-clause-few : goal.add_spelled-placed-requires-clause-few
add_spelled-placed-requires-clause-few g c =
    omega (arith, c.self.invariant.added, ap (λ (b : Building). length b.rows) c.self.view_is, c.requires.few)

pub digest-requires : goal.digest-requires
digest-requires g c = page_length g (goal.at.digest-requires g c).After-done-page

pub as_page-requires : goal.as_page-requires
as_page-requires g c = page_length g (goal.at.as_page-requires g c).After-done-page

pub put-requires-clause-page : goal.put-requires-clause-page
put-requires-clause-page g c = page_length g (goal.at.put-requires-clause-page g c).After-done-page

pub invariant_of-self-then-placed : goal.invariant_of-self-then-placed
invariant_of-self-then-placed g c =
    let at = goal.at.invariant_of-self-then-placed g c in
    kept_next _ _ _ _ _ _ _ _ _ _ (row_spelled c.self.inside.writer.schema c.args.entry.now) c.add_spelled-placed.result c.done-page.result.now c.self.invariant (few g at.After-reserve) (stored g at.After-reserve) c.add_spelled-placed.ensures c.if-placed.true c.done-page.ensures
    (rows_next_is g at.After-note (stored g at.After-reserve))
    (pages_more g at.After-note)
    (digests_more g at.After-note)

pub invariant_of-self-else-placed : goal.invariant_of-self-else-placed
invariant_of-self-else-placed g c =
    let at = goal.at.invariant_of-self-else-placed g c in
    kept_here _ _ _ _ _ _ _ _ _ (row_spelled c.self.inside.writer.schema c.args.entry.now) c.add_spelled-placed.result c.self.invariant (few g at.After-reserve) (stored g at.After-reserve) c.add_spelled-placed.ensures c.if-placed.false
    (rows_here_is g at.Else-placed (stored g at.After-reserve))
    c.reserve.ensures.items

pub returns-then-placed-clause-pushed : goal.returns-then-placed-clause-pushed
returns-then-placed-clause-pushed g c =
    let at = goal.at.returns-then-placed-clause-pushed g c in
    anyway c.put.result (rows_next_is g at.After-note (stored g at.After-reserve) ∙ rows_are g at.After-reserve, ap (λ (b : Building). b.schema) c.self.view_is)

pub returns-then-placed-clause-one_page : goal.returns-then-placed-clause-one_page
returns-then-placed-clause-one_page g c =
    let at = goal.at.returns-then-placed-clause-one_page g c in
    let more = c.note.new.self in
    let rows = rows_finished _ _ c.self.inside.schema c.self.inside.pages more _ _ _ (row_spelled c.self.inside.writer.schema c.args.entry.now) c.add_spelled-placed.result c.done-page.result.now c.self.invariant c.add_spelled-placed.ensures c.if-placed.true c.done-page.ensures (pages_more g at.After-note) in
    anyway c.put.result (inr (
      omega (arith, ap length (pages_more g at.After-note), length-append c.self.inside.pages (c.done-page.result.now ∷ []), ap (λ (b : Building). length b.pages) c.self.view_is),
      sym (ap (λ (b : Building). rows_on b.schema more []) c.self.view_is) ∙ rows ∙ ap (λ (b : Building). b.rows) c.self.view_is,
    ))

pub returns-then-placed-clause-mine_still : goal.returns-then-placed-clause-mine_still
returns-then-placed-clause-mine_still g c = so_too c.put.result c.put.ensures.more
    (λ more. more c.self.inside.pages (c.requires.mine ∙ ap (λ (b : Building). Some b.pages) (sym c.self.view_is))
    ∙ ap (λ (pages : List (List ℕ)). Some pages) (sym (pages_more g (goal.at.returns-then-placed-clause-mine_still g c).After-note)))

pub returns-then-placed-clause-cause : goal.returns-then-placed-clause-cause
returns-then-placed-clause-cause g c = c.put.ensures.cause _ c.requires.short

pub returns-clause-one_page : goal.returns-clause-one_page
returns-clause-one_page g c = inl (ap (λ (b : Building). b.pages) c.self.view_is)

pub returns-clause-pushed : goal.returns-clause-pushed
returns-clause-pushed g c =
    let at = goal.at.returns-clause-pushed g c in
    (rows_here_is g at.Else-placed (stored g at.After-reserve) ∙ rows_are g at.After-reserve, ap (λ (b : Building). b.schema) c.self.view_is)
