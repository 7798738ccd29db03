-- Lemmas on all frames of an owner, for those who end it.
use Rattle.std.proofs.Common.{◌≡◌, ℕ, ◌<◌, List, [], ◌∷◌, map, length, get_or, set, IsPermutation, refl, ap, ◌∙◌, arith}
use Rattle.std.proofs.Math.Seq.{map-set_same}
use Rattle.std.proofs.lemmas.Grind.{common_steps}
use Rattle.std.proofs.lemmas.List.Elements.{All-map}
use Rattle.std.proofs.lemmas.List.Sorted.{All-permutation, IsPermutation-map, IsPermutation-trans, IsPermutation-refl}
use Rattle.std.specs.List.{range_with_len}
use denote.RawPtr.{Ptr}
use Rattle.hv_frames.specs.Frames.{Framed, Owned, AreAll, fresh_frame, fresh_frames}

-- each fresh frame has the number that it was made for
numbers_of_fresh : (owner : Ptr) (numbers : List ℕ) → map (λ f. f.number) (map (fresh_frame owner) numbers) ≡ numbers
numbers_of_fresh owner [] = refl
numbers_of_fresh owner (n ∷ ns) = ap (λ rest. n ∷ rest) (numbers_of_fresh owner ns)

-- the frames that `make` gives are all of them
pub AreAll-fresh : (owned : Owned) (n : ℕ) (frames : List Framed) → owned.count ≡ n → frames ≡ fresh_frames owned.name n → AreAll owned frames
AreAll-fresh owned n frames count is =
    let numbers = range_with_len 0 n in
    record {
      are_its = rw is (All-map (λ f. f.owner ≡ owned.name) (fresh_frame owned.name) numbers (λ k d within. refl));
      numbered = rw (count, is, numbers_of_fresh owned.name numbers) (IsPermutation-refl numbers);
    }

-- in another order they are still all
pub AreAll-permutation : (owned : Owned) (xs ys : List Framed) → IsPermutation xs ys → AreAll owned xs → AreAll owned ys
AreAll-permutation owned xs ys same all = record {
  are_its = All-permutation (λ f. f.owner ≡ owned.name) xs ys same all.are_its;
  numbered = IsPermutation-trans _ _ _ all.numbered (IsPermutation-map (λ f. f.number) xs ys same);
}

-- they are still all once the frame f at k has become g, whose bytes alone differ
pub AreAll-set : (owned : Owned) (frames : List Framed) (k : ℕ) (f g : Framed) → k < length frames → f ≡ get_or frames k f → g.owner ≡ f.owner → g.number ≡ f.number → AreAll owned frames → AreAll owned (set frames k g)
AreAll-set owned frames k f g within is same_owner same_number all = record {
  are_its = λ i d inside. grind (arith, common_steps, all.are_its i d, all.are_its k f, ap (λ f. f.owner) is);
  numbered = rw (map-set_same (λ f. f.number) frames k g f (same_number ∙ ap (λ f. f.number) is)) all.numbered;
}
