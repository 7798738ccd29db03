-- A row is the one that its bytes spell.
use Rattle.std.proofs.Common.{◌≡◌, ◌∷◌, ◌++◌, [], ℕ, List, ap, sym, subst, ◌∙◌}
use Rattle.hv_row.specs.declared.value.Value.{Value}
use Rattle.hv_row.specs.declared.schema.Column.{Column}
use Rattle.hv_row.specs.Row.{RowFits, row_bytes}
use Rattle.hv_row.specs.Packed.{row_spelled}
use Rattle.hv_row.proofs.Spelled.{row_again}
use Rattle.hv_chunk.specs.Building.{Building}
use Rattle.hv_chunk.proofs.builder.ChunkBuilder.push.Given.{Over}
use Rattle.hv_chunk.proofs.builder.ChunkBuilder.push.Goals.{After-as_slice}
use Rattle.hv_chunk.proofs.builder.ChunkBuilder.push.Goals as goal

-- the bytes are the row's
entry_is : (g : Over) (c : After-as_slice g) → c.as_slice.result.now ≡ row_bytes c.self.inside.schema c.args.row
entry_is g c = c.as_slice.ensures.value ∙ c.in-Ok.ensures.spelt.0 ∙ ap (λ (front : List ℕ). front ++ row_bytes c.self.inside.schema c.args.row) c.clear.ensures.items

-- so they spell it
spelled : (g : Over) (c : After-as_slice g) → row_spelled c.self.inside.schema c.as_slice.result.now ≡ c.args.row
spelled g c =
    ap (row_spelled c.self.inside.schema) (entry_is g c)
    ∙ row_again c.self.inside.schema c.args.row (subst (λ (s : List Column). RowFits s c.args.row) (sym (ap (λ (b : Building). b.schema) c.self.view_is)) c.requires.fits)

pub returns-clause-pushed : goal.returns-clause-pushed
returns-clause-pushed g c =
    let at = (goal.at.returns-clause-pushed g c).After-as_slice in (
      ap (λ (b : Building). b.rows) c.self-2.view_is ∙ c.in_ok-push_spelled.ensures.pushed.0
          ∙ ap (λ (b : Building). b.rows ++ row_spelled c.self.inside.schema c.as_slice.result.now ∷ []) c.self.view_is
          ∙ ap (λ (row : List Value). c.args.self.now.rows ++ row ∷ []) (spelled g at),
      ap (λ (b : Building). b.schema) c.self-2.view_is ∙ c.in_ok-push_spelled.ensures.pushed.1 ∙ ap (λ (b : Building). b.schema) c.self.view_is,
    )
