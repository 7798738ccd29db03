-- Queries without a condition.
use Rattle.std.proofs.Common.{◌≡◌, Bool, true, List, [], ◌∷◌, refl, sym, ◌∙◌, ap}
use Rattle.std.specs.List.{filter}
use Rattle.hv_row.specs.declared.value.Value.{Value}
use Rattle.hv_model.specs.declared.query.Cond.TheOpen.{Cond-F}
use Rattle.hv_model.specs.declared.query.Cond.TheVariants.{Always, rolls-Always}
use Rattle.hv_model.specs.declared.query.Cond.TheFolds.{fold-roll-Cond}
use Rattle.hv_model.specs.Truth.{truth_step, holds}

-- no condition is true of every combination
pub always_true : (rows : List (List Value)) → holds Always rows ≡ true
always_true rows = ap (λ c. holds c rows) (sym rolls-Always) ∙ fold-roll-Cond Bool (truth_step rows) Cond-F.Always

-- so every combination is listed
pub always_all : (combos : List (List (List Value))) → filter (holds Always) combos ≡ combos
always_all [] = refl
always_all (rows ∷ combos) = rw (always_true rows) (ap (λ l. rows ∷ l) (always_all combos))
