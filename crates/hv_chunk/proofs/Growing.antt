-- Pages to which an entry is added.
use Rattle.std.proofs.Common.{◌≡◌, ℕ, suc, ◌+◌, ◌<◌, ◌≤◌, List, [], ◌∷◌, ◌++◌, length, refl, sym, ap, ◌∙◌, append_assoc, add-zero, arith, length-append}
use Rattle.std.proofs.lemmas.List.{append-nil}
use Rattle.hv_page.specs.Layout.{Fit, used_by, page_of}
use Rattle.hv_page.specs.Heap.{heap_kind}
use Rattle.hv_page.specs.Chunk.{DidNotFit, IsPacked, heap_pages_from}
use Rattle.hv_chunk.specs.Keeping.{parts_with}
use Rattle.hv_chunk.proofs.Packing.{flat}

-- what didn't fit before a page depends on that page's first entry alone
before_longer : (p : List (List ℕ)) (parts : List (List (List ℕ))) (x : List ℕ) (entries more : List (List ℕ)) → DidNotFit p (parts ++ (x ∷ entries) ∷ []) → DidNotFit p (parts ++ (x ∷ entries ++ more) ∷ [])
before_longer p [] x entries more over = over
before_longer p ([] ∷ parts) x entries more over = over
before_longer p ((y ∷ q) ∷ parts) x entries more over = over

before_more : (p : List (List ℕ)) (parts : List (List (List ℕ))) (last next : List (List ℕ)) → DidNotFit p (parts ++ last ∷ []) → DidNotFit p ((parts ++ last ∷ []) ++ next ∷ [])
before_more p [] [] next over = over
before_more p [] (x ∷ last) next over = over
before_more p ([] ∷ parts) last next over = over
before_more p ((y ∷ q) ∷ parts) last next over = over

-- an entry behind others on the last page
longer_packed : (parts : List (List (List ℕ))) (x : List ℕ) (entries : List (List ℕ)) (entry : List ℕ) → IsPacked (parts ++ (x ∷ entries) ∷ []) → Fit (x ∷ entries ++ entry ∷ []) → IsPacked (parts ++ (x ∷ entries ++ entry ∷ []) ∷ [])
unfolding IsPacked
longer_packed [] x entries entry packed fit = (omega arith, fit, tt, tt)
longer_packed (p ∷ parts) x entries entry packed fit = (packed.0, packed.1, before_longer p parts x entries (entry ∷ []) packed.2, longer_packed parts x entries entry packed.3 fit)

pub stays_packed : (parts : List (List (List ℕ))) (entries : List (List ℕ)) (entry : List ℕ) → (entries ≡ [] → parts ≡ []) → IsPacked (parts_with parts entries) → Fit (entries ++ entry ∷ []) → IsPacked (parts_with parts (entries ++ entry ∷ []))
unfolding IsPacked
stays_packed [] [] entry begun packed fit = (omega arith, fit, tt, tt)
stays_packed (p ∷ parts) [] entry begun packed fit = absurd (let none : p ∷ parts ≡ [] = begun refl in cc)
stays_packed parts (x ∷ entries) entry begun packed fit = longer_packed parts x entries entry packed fit

-- an entry that begins the next page
next_packed : (parts : List (List (List ℕ))) (last : List (List ℕ)) (entry : List ℕ) → IsPacked (parts ++ last ∷ []) → 4096 < used_by (last ++ entry ∷ []) → Fit (entry ∷ []) → IsPacked ((parts ++ last ∷ []) ++ (entry ∷ []) ∷ [])
unfolding IsPacked
next_packed [] last entry packed over fit = (packed.0, packed.1, over, (omega arith, fit, tt, tt))
next_packed (p ∷ parts) last entry packed over fit = (packed.0, packed.1, before_more p parts last (entry ∷ []) packed.2, next_packed parts last entry packed.3 over fit)

-- an entry of at most 2,000 bytes fits on a page of its own
pub fits_alone : (entry : List ℕ) → length entry ≤ 2000 → Fit (entry ∷ [])
fits_alone entry short = omega (arith, length-append entry [])

-- it begins the next page only where there are entries on the one before
pub begins_packed : (parts : List (List (List ℕ))) (entries : List (List ℕ)) (entry : List ℕ) → length entry ≤ 2000 → IsPacked (parts_with parts entries) → 4096 < used_by (entries ++ entry ∷ []) → IsPacked (parts_with (parts ++ entries ∷ []) (entry ∷ []))
begins_packed parts [] entry short packed over = absurd (omega (arith, fits_alone entry short))
begins_packed parts (x ∷ entries) entry short packed over = next_packed parts (x ∷ entries) entry packed over (fits_alone entry short)

flat_append : (ps qs : List (List (List ℕ))) → flat (ps ++ qs) ≡ flat ps ++ flat qs
flat_append [] qs = refl
flat_append (p ∷ ps) qs = ap (λ (later : List (List ℕ)). p ++ later) (flat_append ps qs) ∙ sym (append_assoc p (flat ps) (flat qs))

-- all entries: those of the finished pages, and those of the last one
pub flat_with : (parts : List (List (List ℕ))) (entries : List (List ℕ)) → flat (parts_with parts entries) ≡ flat parts ++ entries
flat_with parts [] = sym (append-nil (flat parts))
flat_with parts (x ∷ entries) = flat_append parts ((x ∷ entries) ∷ []) ∙ ap (λ (later : List (List ℕ)). flat parts ++ later) (append-nil (x ∷ entries))

-- the entries with one more, on the last page or the next one
pub flat_stays : (parts : List (List (List ℕ))) (entries : List (List ℕ)) (entry : List ℕ) → flat (parts_with parts (entries ++ entry ∷ [])) ≡ flat (parts_with parts entries) ++ entry ∷ []
flat_stays parts entries entry =
    flat_with parts (entries ++ entry ∷ []) ∙ sym (append_assoc (flat parts) entries (entry ∷ [])) ∙ ap (λ (front : List (List ℕ)). front ++ entry ∷ []) (sym (flat_with parts entries))

pub flat_begins : (parts : List (List (List ℕ))) (entries : List (List ℕ)) (entry : List ℕ) → flat (parts_with (parts ++ entries ∷ []) (entry ∷ [])) ≡ flat (parts_with parts entries) ++ entry ∷ []
flat_begins parts entries entry =
    flat_with (parts ++ entries ∷ []) (entry ∷ []) ∙ ap (λ (front : List (List ℕ)). front ++ entry ∷ []) (flat_append parts (entries ∷ []) ∙ ap (λ (later : List (List ℕ)). flat parts ++ later) (append-nil entries) ∙ sym (flat_with parts entries))

-- the pages with one more behind them
pub pages_more : (version number : ℕ) (parts : List (List (List ℕ))) (part : List (List ℕ)) → heap_pages_from version number (parts ++ part ∷ []) ≡ heap_pages_from version number parts ++ page_of heap_kind version (number + length parts) part ∷ []
unfolding heap_pages_from
pages_more version number [] part = ap (λ (n : ℕ). page_of heap_kind version n part ∷ []) (sym (add-zero number))
pages_more version number (p ∷ parts) part =
    let moved : suc number + length parts ≡ number + length (p ∷ parts) = omega arith in
    ap (λ (later : List (List ℕ)). page_of heap_kind version number p ∷ later) (pages_more version (suc number) parts part ∙ ap (λ (n : ℕ). heap_pages_from version (suc number) parts ++ page_of heap_kind version n part ∷ []) moved)

pub pages_count : (version number : ℕ) (parts : List (List (List ℕ))) → length (heap_pages_from version number parts) ≡ length parts
unfolding heap_pages_from
pages_count version number [] = refl
pages_count version number (p ∷ parts) = omega (arith, pages_count version (suc number) parts)
