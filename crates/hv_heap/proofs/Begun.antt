-- A begun page's entries, and what a push adds to them.
use Rattle.std.proofs.Common.{◌≡◌, ℕ, ◌<◌, ◌≤◌, Bool, true, false, List, [], ◌∷◌, ◌++◌, length, refl, sym, subst, ap, ◌∙◌, arith, length-append}
use Rattle.hv_page.specs.Layout.{IsBegun, used_by, written_version}
use Rattle.hv_page.specs.Heap.{heap_kind}
use Rattle.hv_page.specs.Fault.{entries_of}
use Rattle.hv_page.proofs.Reading.{made_entries, page_length}

-- the entries of a page are those with which it was begun
pub begun_entries : {number : ℕ} {page : List ℕ} {entries : List (List ℕ)} → IsBegun heap_kind number page entries → entries_of page ≡ entries
begun_entries {number} {page} {entries} begun = ap entries_of begun.whole ∙ made_entries heap_kind written_version number entries begun.fit

-- so the page tells them
pub begun_as_read : {number : ℕ} {page : List ℕ} {entries : List (List ℕ)} → IsBegun heap_kind number page entries → IsBegun heap_kind number page (entries_of page)
begun_as_read {number} {page} begun = subst (IsBegun heap_kind number page) (sym (begun_entries begun)) begun

-- an entry of at most 2,000 bytes fits on a page of its own
pub pushed_first : (number : ℕ) (page before after entry : List ℕ) (fits : Bool) → page ≡ before → IsBegun heap_kind number before [] → length entry ≤ 2000
    → ((kind number : ℕ) (entries : List (List ℕ)) → IsBegun kind number page entries → fits ≡ true → IsBegun kind number after (entries ++ entry ∷ []))
    → ((kind number : ℕ) (entries : List (List ℕ)) → IsBegun kind number page entries → fits ≡ false → 4096 < used_by (entries ++ entry ∷ []))
    → IsBegun heap_kind number after (entry ∷ [])
pushed_first number page before after entry true same begun short pushed full =
    pushed heap_kind number [] (subst (λ (p : List ℕ). IsBegun heap_kind number p []) (sym same) begun) refl
pushed_first number page before after entry false same begun short pushed full =
    let over = full heap_kind number [] (subst (λ (p : List ℕ). IsBegun heap_kind number p []) (sym same) begun) refl in
    absurd (omega (arith, length-append entry []))

-- a page that is lent whole was begun with the same entries
pub begun_moved : {number : ℕ} {page lent : List ℕ} {entries : List (List ℕ)} → lent ≡ page → IsBegun heap_kind number page entries → IsBegun heap_kind number lent entries
begun_moved {number} {page} {lent} {entries} same begun = subst (λ (p : List ℕ). IsBegun heap_kind number p entries) (sym same) begun

-- a begun page has 4,096 bytes
pub begun_length : {number : ℕ} {page : List ℕ} {entries : List (List ℕ)} → IsBegun heap_kind number page entries → length page ≡ 4096
begun_length {number} {page} {entries} begun = ap length begun.whole ∙ page_length heap_kind written_version number entries begun.fit
