-- The last turn of a job makes the chunk of all rows.
use Rattle.std.proofs.Common.{◌≡◌, ℕ, Bool, List, length, Option, Some, sym, subst, ◌∙◌, arith}
use Rattle.std.specs.Prelude.{IfSome}
use Rattle.std.proofs.lemmas.List.{take_all}
use Rattle.hv_row.specs.declared.value.Value.{Value}
use Rattle.hv_row.specs.declared.schema.Column.{Column}
use Rattle.hv_row.specs.Packed.{Packed}
use Rattle.hv_view.specs.View.{Viewed, IsBuilt}
use Rattle.hv_chunk.specs.Building.{Building}
use Rattle.hv_import.specs.Job.{HasPushed}

-- the chunk in the making that was taken from the job
pub has_taken : (packed : Packed) (pushed : ℕ) (kept taken : Option Building) (building : Building) → IfSome kept (HasPushed packed pushed) → taken ≡ kept → taken ≡ Some building → HasPushed packed pushed building
has_taken packed pushed kept taken building has same is = subst (λ (o : Option Building). IfSome o (HasPushed packed pushed)) (sym same ∙ is) has

-- all rows are pushed, so it is theirs
pub built_all : {File : Type 0} (tells : Bool) (pages : File → List (List ℕ)) (packed : Packed) (pushed : ℕ) (building : Building) (chunk : Viewed File) → HasPushed packed pushed building → pushed ≡ length packed.rows
    → IsBuilt tells pages building.schema building.rows chunk → IsBuilt tells pages packed.schema packed.rows chunk
built_all tells pages packed pushed building chunk has all built =
    let rows : building.rows ≡ packed.rows = has.rows_are ∙ take_all pushed packed.rows (omega (arith, all)) in
    subst (λ (s : List Column). IsBuilt tells pages s packed.rows chunk) has.schema_is (subst (λ (r : List (List Value)). IsBuilt tells pages building.schema r chunk) rows built)
