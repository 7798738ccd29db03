use Rattle.std.proofs.Common.{◌≡◌, ℕ, Bool, true, false, List, [], ◌∷◌, ◌++◌, refl, sym, subst}
use Rattle.hv_page.specs.Layout.{WasBegun, IsBegun}
use Rattle.oodb_bench.proofs.work.push_all.Goals as goal

went_on : (r : Bool) (old new entry : List ℕ) → WasBegun old → ((kind number : ℕ) (entries : List (List ℕ)) → IsBegun kind number old entries → r ≡ true → IsBegun kind number new (entries ++ entry ∷ [])) → (r ≡ false → new ≡ old) → WasBegun new
went_on true old new entry w p s = record { kind = w.kind; number = w.number; entries = w.entries ++ entry ∷ []; begun = p w.kind w.number w.entries w.begun refl }
went_on false old new entry w p s = subst WasBegun (sym (s refl)) w

pub loop-entry-preserved : goal.loop-entry-preserved
loop-entry-preserved c = went_on _ _ _ _ c.loop-entry.invariant c.push-pushed.ensures.pushed c.push-pushed.ensures.same
