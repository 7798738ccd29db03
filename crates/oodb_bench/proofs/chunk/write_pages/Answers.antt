use Rattle.std.proofs.Common.{◌≡◌, ℕ, List, [], ◌∷◌, ◌++◌, Option, Some, None, IsSome, subst, sym, refl}
use Rattle.oodb_bench.proofs.chunk.write_pages.Goals as goal

-- a file that was open is open with one page more
open_with_more : (before after : Option (List (List ℕ))) (page : List ℕ) → IsSome before → ((pages : List (List ℕ)) → before ≡ Some pages → after ≡ Some (pages ++ page ∷ [])) → IsSome after
open_with_more None after page is_open more = absurd cc
open_with_more (Some pages) after page is_open more = subst (λ (o : Option (List (List ℕ))). IsSome o) (sym (more pages refl)) refl

pub loop-preserved : goal.loop-preserved
loop-preserved g c = record { whole = c.loop.invariant.whole; open_still = open_with_more _ _ _ c.loop.invariant.open_still c.in-Ok.ensures.more }
