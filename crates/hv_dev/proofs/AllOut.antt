-- All frames of an owner, some in hand and some in reads under way.
use Rattle.std.proofs.Common.{◌≡◌, ℕ, ◌<◌, List, [], ◌∷◌, ◌++◌, map, length, get_or, IsPermutation, refl, ap, ◌∙◌, sym, append_assoc, ◌+◌, arith, length-append}
use Rattle.std.proofs.Math.ListN.{get_or-map}
use Rattle.std.proofs.lemmas.List.{map-append, append-nil, length-map}
use Rattle.std.proofs.lemmas.List.Elements.{All-map}
use Rattle.std.proofs.lemmas.List.Sorted.{All-permutation, IsPermutation-map, IsPermutation-trans, IsPermutation-append_right, IsPermutation-middle, IsPermutation-sym, IsPermutation-to_front}
use Rattle.std.specs.List.{range_with_len}
use denote.RawPtr.{Ptr}
use Rattle.hv_frames.specs.Frames.{Framed, Owned, AreAll}
use Rattle.hv_dev.specs.Reading.{Flight}

-- whose frame it is, and its number
abbrev pub name : Framed → Ptr × ℕ
name f = (f.owner, f.number)

abbrev pub held_name : {File : Type 0} → Flight File → Ptr × ℕ
held_name f = (f.owner, f.frame)

-- these are all frames of the owner, by their names
pub record AllNamed (owned : Owned) (names : List (Ptr × ℕ)) : Type 0 where
  pub are_its : (k : ℕ) (d : Ptr × ℕ) → k < length names → (get_or names k d).0 ≡ owned.name
  pub numbered : IsPermutation (range_with_len 0 owned.count) (map (λ p. p.1) names)

-- in another order they are still all
pub AllNamed-permutation : (owned : Owned) (xs ys : List (Ptr × ℕ)) → IsPermutation xs ys → AllNamed owned xs → AllNamed owned ys
AllNamed-permutation owned xs ys same all = record {
  are_its = All-permutation (λ p. p.0 ≡ owned.name) xs ys same all.are_its;
  numbered = IsPermutation-trans _ _ _ all.numbered (IsPermutation-map (λ p. p.1) xs ys same);
}

numbers : (frames : List Framed) → map (λ p. p.1) (map name frames) ≡ map (λ f. f.number) frames
numbers [] = refl
numbers (f ∷ fs) = ap (λ rest. f.number ∷ rest) (numbers fs)

-- all in hand
pub AllNamed-frames : (owned : Owned) (frames : List Framed) → AreAll owned frames → AllNamed owned (map name frames)
AllNamed-frames owned frames all = record {
  are_its = All-map (λ p. p.0 ≡ owned.name) name frames all.are_its;
  numbered = rw (numbers frames) all.numbered;
}

pub AreAll-named : (owned : Owned) (frames : List Framed) → AllNamed owned (map name frames) → AreAll owned frames
AreAll-named owned frames all = record {
  are_its = λ k d within. ap (λ p. p.0) (sym (get_or-map name frames k d)) ∙ all.are_its k (name d) (rw (length-map frames name) within);
  numbered = rw (← numbers frames) all.numbered;
}

-- the names of the frames in hand and then of those under way
abbrev pub names : {File : Type 0} → List Framed → List (Flight File) → List (Ptr × ℕ)
names frames flights = map name frames ++ map held_name flights

-- the last frame in hand goes under way
pub goes : {File : Type 0} (rest : List Framed) (f : Framed) (flights : List (Flight File)) (flight : Flight File) → name f ≡ held_name flight
    → IsPermutation (names (rest ++ f ∷ []) flights) (names rest (flights ++ flight ∷ []))
goes rest f flights flight same =
    simp (map-append, append_assoc)
    (IsPermutation-append_right (map name rest) (name f ∷ map held_name flights) (map held_name flights ++ held_name flight ∷ [])
    (rw same (IsPermutation-sym _ _ (IsPermutation-to_front (map held_name flights) (held_name flight)))))

-- a frame under way comes back
pub comes : {File : Type 0} (back : List Framed) (f : Framed) (front rear : List (Flight File)) (flight : Flight File) → name f ≡ held_name flight
    → IsPermutation (names back (front ++ flight ∷ rear)) (names (back ++ f ∷ []) (front ++ rear))
comes back f front rear flight same =
    simp (map-append, append_assoc)
    (IsPermutation-append_right (map name back) (map held_name front ++ held_name flight ∷ map held_name rear) (name f ∷ (map held_name front ++ map held_name rear))
    (rw same (IsPermutation-middle (map held_name front) (held_name flight) (map held_name rear))))

-- before the first read
pub all_at_first : {File : Type 0} (owned : Owned) (frames : List Framed) (flights : List (Flight File)) → AreAll owned frames → flights ≡ [] → AllNamed owned (names frames flights)
all_at_first owned frames flights all none = rw (none, append-nil) (AllNamed-frames owned frames all)

-- after a submit
pub all_submitted : {File : Type 0} (owned : Owned) (frames rest : List Framed) (f : Framed) (flights flights' : List (Flight File)) (flight : Flight File)
    → frames ≡ rest ++ f ∷ [] → flights' ≡ flights ++ flight ∷ [] → name f ≡ held_name flight → AllNamed owned (names frames flights) → AllNamed owned (names rest flights')
all_submitted owned frames rest f flights flights' flight is are same all =
    rw are (AllNamed-permutation owned (names (rest ++ f ∷ []) flights) _ (goes rest f flights flight same) (rw is at all))

-- after a read came back
pub all_reaped : {File : Type 0} (owned : Owned) (frames frames' : List Framed) (f : Framed) (flights flights' front rear : List (Flight File)) (flight : Flight File)
    → frames' ≡ frames ++ f ∷ [] → flights ≡ front ++ flight ∷ rear → flights' ≡ front ++ rear → name f ≡ held_name flight → AllNamed owned (names frames flights) → AllNamed owned (names frames' flights')
all_reaped owned frames frames' f flights flights' front rear flight is were are same all =
    rw (is, are) (AllNamed-permutation owned (names frames (front ++ flight ∷ rear)) _ (comes frames f front rear flight same) (rw were at all))

-- after the last
pub all_at_last : {File : Type 0} (owned : Owned) (frames : List Framed) (flights : List (Flight File)) → length flights ≡ 0 → AllNamed owned (names frames flights) → AreAll owned frames
all_at_last owned frames [] none all = AreAll-named owned frames (rw append-nil at all)
all_at_last owned frames (flight ∷ flights) none all = absurd (omega arith)

pub one_more : {X : Type 0} (xs ys : List X) (x : X) → ys ≡ xs ++ x ∷ [] → length ys ≡ length xs + 1
one_more xs ys x is = rw is (grind (arith, length-append))

pub one_less : {X : Type 0} (xs ys front rear : List X) (x : X) → xs ≡ front ++ x ∷ rear → ys ≡ front ++ rear → length xs ≡ length ys + 1
one_less xs ys front rear x were are = rw (were, are) (grind (arith, length-append))
