use Rattle.std.proofs.Common.{◌≡◌, true, ℕ, List, length, take, replicate, sym, ◌∙◌}
use Rattle.std.specs.Prelude.{nat_eq}
use Rattle.std.specs.Cmp.Lexicographic.{same_text, pointwise}
use Rattle.std.proofs.lemmas.List.{take-replicate}
use Rattle.hv_page.proofs.fault.are_zeros.Goals as goal

pub returns : goal.returns
returns c = λ yes.
    let bytes : List ℕ = c.args.bytes.now in
    let equal : true ≡ pointwise nat_eq bytes (take (length bytes) (replicate 4096 0)) = sym yes ∙ c.eq.ensures in
    same_text bytes (take (length bytes) (replicate 4096 0)) equal ∙ take-replicate (length bytes) 4096 0 c.requires
