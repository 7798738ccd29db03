use Rattle.std.proofs.Common.{◌≡◌, ℕ, Bool, true, false, List, [], ◌∷◌, ◌++◌, refl, sym, subst}
use Rattle.hv_page.specs.Layout.{IsBegun, WasBegun}
use Rattle.hv_page_tests.proofs.page.push_one.Goals as goal

-- a page to which an entry was pushed was begun, whether it had room or not
begun_still : (old new entry : List ℕ) (pushed : Bool) → WasBegun old
    → ((kind number : ℕ) (entries : List (List ℕ)) → IsBegun kind number old entries → pushed ≡ true → IsBegun kind number new (entries ++ entry ∷ []))
    → (pushed ≡ false → new ≡ old) → WasBegun new
begun_still old new entry true was more same =
    record { kind = was.kind; number = was.number; entries = was.entries ++ entry ∷ []; begun = more was.kind was.number was.entries was.begun refl }
begun_still old new entry false was more same = subst WasBegun (sym (same refl)) was

pub returns : goal.returns
returns c = begun_still c.args.page.now c.push.new.page _ c.push.result c.requires c.push.ensures.pushed c.push.ensures.same
