-- Entries determine the pages on which they are packed.
use Rattle.std.proofs.Common.{◌≡◌, ℕ, ◌≤◌, ◌⊎◌, inl, inr, List, [], ◌∷◌, ◌++◌, length, refl, sym, ap, ◌∙◌, arith, length-append}
use Rattle.std.proofs.lemmas.List.{append-nil}
use Rattle.std.proofs.lemmas.List.Folds.{concat-append}
use Rattle.std.specs.List.{flat_map, concat}
use Rattle.hv_row.specs.declared.value.Value.{Value}
use Rattle.hv_row.specs.declared.schema.Column.{Column}
use Rattle.hv_page.specs.Layout.{Fit, used_by}
use Rattle.hv_page.specs.Chunk.{DidNotFit, IsPacked, heap_pages_from, AreHeapPages}

-- all entries of some pages
abbrev pub flat : List (List (List ℕ)) → List (List ℕ)
flat parts = flat_map (λ part. part) parts

-- fewer entries take less of a page
used_front : (front : List (List ℕ)) (entry : List ℕ) (later : List (List ℕ)) → used_by (front ++ entry ∷ []) ≤ used_by (front ++ entry ∷ later)
used_front front entry later =
    omega (arith, length-append front (entry ∷ []), length-append front (entry ∷ later), ap length (concat-append front (entry ∷ [])), ap length (concat-append front (entry ∷ later)), length-append (concat front) (concat (entry ∷ [])), length-append (concat front) (concat (entry ∷ later)), length-append entry [], length-append entry (concat later))

-- where two fronts of one list part: the one is the other and some more
record Longer (front back other rest : List (List ℕ)) : Type 0 where
  more : List (List ℕ)
  is : other ≡ front ++ more
  left : back ≡ more ++ rest

split : (p a q b : List (List ℕ)) → p ++ a ≡ q ++ b → Longer p a q b ⊎ Longer q b p a
split [] a q b e = inl (record { more = q; is = refl; left = e })
split (x ∷ p) a [] b e = inr (record { more = x ∷ p; is = refl; left = sym e })
split (x ∷ p) a (y ∷ q) b e =
    let first : x ≡ y = cc in
    let rest : p ++ a ≡ q ++ b = cc in
    elim (split p a q b rest) [
      | inl w ↦ inl (record { more = w.more; is = ap (λ (l : List (List ℕ)). y ∷ l) w.is ∙ ap (λ (z : List ℕ). z ∷ (p ++ w.more)) (sym first); left = w.left })
      | inr w ↦ inr (record { more = w.more; is = ap (λ (l : List (List ℕ)). x ∷ l) w.is ∙ ap (λ (z : List ℕ). z ∷ (q ++ w.more)) first; left = w.left })
    ]

-- a page doesn't end before an entry that fits on it
not_early : (p q : List (List ℕ)) (parts : List (List (List ℕ))) (x : List ℕ) (more rest : List (List ℕ))
    → DidNotFit p parts → flat parts ≡ x ∷ more ++ rest → Fit q → q ≡ p ++ x ∷ more → ⊥
not_early p q [] x more rest over e fit is = cc
not_early p q ([] ∷ parts) x more rest over e fit is = over
not_early p q ((y ∷ others) ∷ parts) x more rest over e fit is =
    let first : y ≡ x = cc in
    let least : used_by (p ++ x ∷ []) ≤ used_by (p ++ x ∷ more) = used_front p x more in
    omega (arith, ap (λ (z : List ℕ). used_by (p ++ z ∷ [])) first, ap used_by is)

-- so neither of two pages with which one list begins is longer
same_page : (p q : List (List ℕ)) (parts : List (List (List ℕ))) (more rest : List (List ℕ)) → DidNotFit p parts → Fit q → q ≡ p ++ more → flat parts ≡ more ++ rest → (p ≡ q) × (flat parts ≡ rest)
same_page p q parts [] rest over fit is left = (sym (is ∙ append-nil p), left)
same_page p q parts (x ∷ more) rest over fit is left = absurd (not_early p q parts x more rest over left fit is)

unfoldable first_parts : (p q : List (List ℕ)) (ps qs : List (List (List ℕ))) → IsPacked (p ∷ ps) → IsPacked (q ∷ qs) → flat (p ∷ ps) ≡ flat (q ∷ qs) → (p ≡ q) × (flat ps ≡ flat qs)
unfolding IsPacked
first_parts p q ps qs packed others same =
    elim (split p (flat ps) q (flat qs) same) [
      | inl w ↦ same_page p q ps w.more (flat qs) packed.2 others.1 w.is w.left
      | inr w ↦ (let back : (q ≡ p) × (flat qs ≡ flat ps) = same_page q p qs w.more (flat ps) others.2 packed.1 w.is w.left in (sym back.0, sym back.1))
    ]

-- a list of entries is packed in one way
pub packed_once : (ps qs : List (List (List ℕ))) → IsPacked ps → IsPacked qs → flat ps ≡ flat qs → ps ≡ qs
unfolding IsPacked
packed_once [] [] packed others same = refl
packed_once [] ([] ∷ qs) packed others same = absurd (omega (arith, others.0))
packed_once [] ((x ∷ q) ∷ qs) packed others same = cc
packed_once ([] ∷ ps) [] packed others same = absurd (omega (arith, packed.0))
packed_once ((x ∷ p) ∷ ps) [] packed others same = cc
packed_once (p ∷ ps) (q ∷ qs) packed others same =
    let first : (p ≡ q) × (flat ps ≡ flat qs) = first_parts p q ps qs packed others same in
    let later : ps ≡ qs = packed_once ps qs packed.3 others.3 first.1 in
    ap (λ (part : List (List ℕ)). part ∷ ps) first.0 ∙ ap (λ (parts : List (List (List ℕ))). q ∷ parts) later

-- so rows have their heap pages, and no others
pub pages_once : (version : ℕ) (schema : List Column) (pages others : List (List ℕ)) (rows : List (List Value)) → AreHeapPages version schema pages rows → AreHeapPages version schema others rows → pages ≡ others
pages_once version schema pages others rows a b =
    a.numbered ∙ ap (heap_pages_from version 0) (packed_once a.parts b.parts a.packed b.packed (a.slots ∙ sym b.slots)) ∙ sym b.numbered

-- each page has an entry, so there are no more pages than entries
pub pages_within : (parts : List (List (List ℕ))) → IsPacked parts → length parts ≤ length (flat parts)
unfolding IsPacked
pages_within [] packed = omega arith
pages_within (p ∷ ps) packed = omega (arith, packed.0, pages_within ps packed.3, length-append p (flat ps))
