-- The points of a page one by one: a page has no fault where each of them has none.
use Rattle.std.proofs.Common.{◌≡◌, ℕ, zero, suc, ◌+◌, ◌-◌, ◌<◌, ◌≤◌, Bool, true, false, ◌&&◌, ◌≢◌, ◌⊎◌, List, [], ◌∷◌, length, get_or, take, drop, replicate, add-one, Option, Some, None, refl, sym, ap, ◌∙◌, arith, inl, inr}
use Rattle.std.specs.Prelude.{nat_eq, nat_lt}
use Rattle.std.specs.List.{AllByRecursion}
use Rattle.std.proofs.lemmas.Bool.{cases_eq, cond-false, eqb-true, and_left, and_right, and_from, eq-eqb, ne_eqb, lt-ltb, le-ltb}
use Rattle.std.proofs.lemmas.List.{drop_more, drop_all}
use Rattle.hv_page.specs.Layout.{entries_from}
use Rattle.hv_page.specs.Fault.{◌orelse◌, unless, count_of, used_of, entry_from, entry_to, entry_at, offset_fits, offsets_fault, behind_place, entries_fault, zeros_fault, entries_left}

pub orelse_next : (first next : Option ℕ) → first ≡ None → (first orelse next) ≡ next
orelse_next None next e = refl
orelse_next (Some byte) next e = absurd cc

pub orelse_first : (first next : Option ℕ) (byte : ℕ) → first ≡ Some byte → (first orelse next) ≡ Some byte
orelse_first None next byte e = absurd cc
orelse_first (Some at) next byte e = e

pub orelse_parts : (first next : Option ℕ) → (first orelse next) ≡ None → (first ≡ None) × (next ≡ None)
orelse_parts None next e = (refl, e)
orelse_parts (Some byte) next e = absurd cc

pub orelse_assoc : (a b c : Option ℕ) → ((a orelse b) orelse c) ≡ (a orelse (b orelse c))
orelse_assoc None b c = refl
orelse_assoc (Some byte) b c = refl

pub unless_holds : (holds : Bool) (byte : ℕ) → holds ≡ true → unless holds byte ≡ None
unless_holds true byte e = refl
unless_holds false byte e = absurd cc

pub unless_fails : (holds : Bool) (byte : ℕ) → holds ≡ false → unless holds byte ≡ Some byte
unless_fails true byte e = absurd cc
unless_fails false byte e = refl

pub unless_none : (holds : Bool) (byte : ℕ) → unless holds byte ≡ None → holds ≡ true
unless_none true byte e = refl
unless_none false byte e = absurd cc

-- the byte at fault is the one that is given
pub unless_some : (holds : Bool) (byte at : ℕ) → unless holds byte ≡ Some at → at ≡ byte
unless_some true byte at e = absurd cc
unless_some false byte at e = cc

pub behind_none : (at : ℕ) (fault : Option ℕ) → behind_place at fault ≡ None → fault ≡ None
behind_none at None e = refl
behind_none at (Some byte) e = absurd cc

-- ---- offsets

pub offsets_none : (page : List ℕ) (slot left : ℕ) → ((k : ℕ) → slot ≤ k → k < slot + left → offset_fits page k ≡ true) → offsets_fault page slot left ≡ None
unfolding offsets_fault
offsets_none page slot zero fit = refl
offsets_none page slot (suc left) fit =
    let here = unless_holds (offset_fits page slot) (entries_from slot) (fit slot (omega arith) (omega arith)) in
    orelse_next (unless (offset_fits page slot) (entries_from slot)) (offsets_fault page (suc slot) left) here
    ∙ offsets_none page (suc slot) left (λ k above below. fit k (omega arith) (omega arith))

pub offsets_fit : (page : List ℕ) (slot left : ℕ) → offsets_fault page slot left ≡ None → (k : ℕ) → slot ≤ k → k < slot + left → offset_fits page k ≡ true
unfolding offsets_fault
offsets_fit page slot zero none k above below = absurd (omega arith)
offsets_fit page slot (suc left) none k above below =
    let parts = orelse_parts (unless (offset_fits page slot) (entries_from slot)) (offsets_fault page (suc slot) left) none in
    elim (cases_eq k slot) [
      | inl same ↦ ap (offset_fits page) same ∙ unless_none (offset_fits page slot) (entries_from slot) parts.0
      | inr other ↦ offsets_fit page (suc slot) left parts.1 k (omega arith) (omega arith)
    ]

-- ---- entries

pub entries_none : (test : List ℕ → Option ℕ) (page : List ℕ) (slot left : ℕ) → ((k : ℕ) → slot ≤ k → k < slot + left → test (entry_at page k) ≡ None) → entries_fault test page slot left ≡ None
unfolding entries_fault
entries_none test page slot zero pass = refl
entries_none test page slot (suc left) pass =
    let here : behind_place (entry_from page slot) (test (entry_at page slot)) ≡ None = ap (behind_place (entry_from page slot)) (pass slot (omega arith) (omega arith)) in
    orelse_next (behind_place (entry_from page slot) (test (entry_at page slot))) (entries_fault test page (suc slot) left) here
    ∙ entries_none test page (suc slot) left (λ k above below. pass k (omega arith) (omega arith))

-- each entry that was read passes the test
pub entries_pass : (test : List ℕ → Option ℕ) (page : List ℕ) (slot left : ℕ) → entries_fault test page slot left ≡ None → AllByRecursion (λ entry. test entry ≡ None) (entries_left page slot left)
unfolding entries_fault entries_left
entries_pass test page slot zero none = tt
entries_pass test page slot (suc left) none =
    let parts = orelse_parts (behind_place (entry_from page slot) (test (entry_at page slot))) (entries_fault test page (suc slot) left) none in
    (behind_none (entry_from page slot) (test (entry_at page slot)) parts.0, entries_pass test page (suc slot) left parts.1)

-- ---- zeros

pub zeros_none : (at count : ℕ) → zeros_fault at (replicate count 0) ≡ None
unfolding zeros_fault
zeros_none at zero = refl
zeros_none at (suc count) = zeros_none (suc at) count

pub zeros_are : (at : ℕ) (bytes : List ℕ) → zeros_fault at bytes ≡ None → bytes ≡ replicate (length bytes) 0
unfolding zeros_fault
zeros_are at [] none = refl
zeros_are at (byte ∷ bytes) none =
    let parts = orelse_parts (unless (nat_eq byte 0) at) (zeros_fault (suc at) bytes) none in
    let zero_here : byte ≡ 0 = eqb-true byte 0 (unless_none (nat_eq byte 0) at parts.0) in
    ap (λ (b : ℕ). b ∷ bytes) zero_here ∙ ap (λ (rest : List ℕ). 0 ∷ rest) (zeros_are (suc at) bytes parts.1)

-- ---- steps of a loop over the slots, and over the bytes behind the entries

pub offsets_next : (page : List ℕ) (slot count : ℕ) → slot < count → offsets_fault page slot (count - slot) ≡ (unless (offset_fits page slot) (entries_from slot) orelse offsets_fault page (slot + 1) (count - (slot + 1)))
unfolding offsets_fault
offsets_next page slot count lt =
    let left : count - slot ≡ suc (count - (slot + 1)) = omega arith in
    rw (left, add-one) refl

pub offsets_end : (page : List ℕ) (slot count : ℕ) → count ≤ slot → offsets_fault page slot (count - slot) ≡ None
unfolding offsets_fault
offsets_end page slot count le =
    let left : count - slot ≡ 0 = omega arith in
    rw left refl

-- each offset behind the first is compared with the one before
pub offset_fits_next : (page : List ℕ) (slot : ℕ) → 0 < slot → offset_fits page slot ≡ (nat_lt (entry_from page (slot - 1)) (entry_from page slot) && nat_lt (entry_from page slot) (used_of page))
offset_fits_next page zero some = absurd (omega arith)
offset_fits_next page (suc slot) some =
    let before : suc slot - 1 ≡ slot = omega arith in
    rw before refl

pub first_stops : (page : List ℕ) (count first used : ℕ) → 0 < count → first ≡ entry_from page 0 → used ≡ used_of page → count ≡ count_of page → (first ≢ entries_from count) ⊎ (used ≤ first) → offsets_fault page 0 count ≡ Some 16
first_stops page count first used some first-is used-is count-is wrong =
    let fails : offset_fits page 0 ≡ false = elim wrong [
      | inl other ↦ and_left (nat_eq (entry_from page 0) (entries_from (count_of page))) (nat_lt (entry_from page 0) (used_of page)) (ne_eqb (entry_from page 0) (entries_from (count_of page)) (λ same. other (omega (arith, same))))
      | inr late ↦ and_right (nat_eq (entry_from page 0) (entries_from (count_of page))) (nat_lt (entry_from page 0) (used_of page)) (le-ltb (entry_from page 0) (used_of page) (omega arith))
    ] in
    let all : count ≡ count - 0 = omega arith in
    ap (offsets_fault page 0) all ∙ offsets_next page 0 count some ∙ orelse_first (unless (offset_fits page 0) 16) (offsets_fault page 1 (count - 1)) 16 (unless_fails (offset_fits page 0) 16 fails)

pub first_fits : (page : List ℕ) (count first used : ℕ) → 0 < count → first ≡ entry_from page 0 → used ≡ used_of page → count ≡ count_of page → first ≡ entries_from count → first < used → offsets_fault page 0 count ≡ offsets_fault page 1 (count - 1)
first_fits page count first used some first-is used-is count-is same lt =
    let fits : offset_fits page 0 ≡ true = and_from (nat_eq (entry_from page 0) (entries_from (count_of page))) (nat_lt (entry_from page 0) (used_of page))
    (eq-eqb (entry_from page 0) (entries_from (count_of page)) (omega arith)) (lt-ltb (entry_from page 0) (used_of page) (omega arith)) in
    let all : count ≡ count - 0 = omega arith in
    ap (offsets_fault page 0) all ∙ offsets_next page 0 count some ∙ orelse_next (unless (offset_fits page 0) 16) (offsets_fault page 1 (count - 1)) (unless_holds (offset_fits page 0) 16 fits)

-- the offset at a slot, the one before and the end, as a loop has them at hand
pub record IsAt (page : List ℕ) (slot count before from used : ℕ) : Type 0 where
  pub above : 0 < slot
  pub below : slot < count
  pub before-is : before ≡ entry_from page (slot - 1)
  pub from-is : from ≡ entry_from page slot
  pub used-is : used ≡ used_of page

pub offset_stops : (page : List ℕ) (slot count before from used : ℕ) → IsAt page slot count before from used → (from ≤ before) ⊎ (used ≤ from) → offsets_fault page slot (count - slot) ≡ Some (entries_from slot)
offset_stops page slot count before from used at wrong =
    let fails : (nat_lt (entry_from page (slot - 1)) (entry_from page slot) && nat_lt (entry_from page slot) (used_of page)) ≡ false = elim wrong [
      | inl low ↦ and_left (nat_lt (entry_from page (slot - 1)) (entry_from page slot)) (nat_lt (entry_from page slot) (used_of page)) (le-ltb (entry_from page (slot - 1)) (entry_from page slot) (omega arith))
      | inr late ↦ and_right (nat_lt (entry_from page (slot - 1)) (entry_from page slot)) (nat_lt (entry_from page slot) (used_of page)) (le-ltb (entry_from page slot) (used_of page) (omega arith))
    ] in
    offsets_next page slot count at.below
    ∙ orelse_first (unless (offset_fits page slot) (entries_from slot)) (offsets_fault page (slot + 1) (count - (slot + 1))) (entries_from slot) (unless_fails (offset_fits page slot) (entries_from slot) (offset_fits_next page slot at.above ∙ fails))

pub offset_goes_on : (page : List ℕ) (slot count before from used : ℕ) → IsAt page slot count before from used → before < from → from < used → offsets_fault page slot (count - slot) ≡ offsets_fault page (slot + 1) (count - (slot + 1))
offset_goes_on page slot count before from used at up lt =
    let fits = and_from (nat_lt (entry_from page (slot - 1)) (entry_from page slot)) (nat_lt (entry_from page slot) (used_of page))
    (lt-ltb (entry_from page (slot - 1)) (entry_from page slot) (omega arith)) (lt-ltb (entry_from page slot) (used_of page) (omega arith)) in
    offsets_next page slot count at.below
    ∙ orelse_next (unless (offset_fits page slot) (entries_from slot)) (offsets_fault page (slot + 1) (count - (slot + 1))) (unless_holds (offset_fits page slot) (entries_from slot) (offset_fits_next page slot at.above ∙ fits))

pub entries_next : (test : List ℕ → Option ℕ) (page : List ℕ) (slot count : ℕ) → slot < count → entries_fault test page slot (count - slot) ≡ (behind_place (entry_from page slot) (test (entry_at page slot)) orelse entries_fault test page (slot + 1) (count - (slot + 1)))
unfolding entries_fault
entries_next test page slot count lt =
    let left : count - slot ≡ suc (count - (slot + 1)) = omega arith in
    rw (left, add-one) refl

pub entries_end : (test : List ℕ → Option ℕ) (page : List ℕ) (slot count : ℕ) → count ≤ slot → entries_fault test page slot (count - slot) ≡ None
unfolding entries_fault
entries_end test page slot count le =
    let left : count - slot ≡ 0 = omega arith in
    rw left refl

-- an entry ends where the next one begins
pub entry_to_next : (page : List ℕ) (slot count : ℕ) → count_of page ≡ count → slot + 1 < count → entry_to page slot ≡ entry_from page (slot + 1)
entry_to_next page slot count counted lt =
    let more : nat_eq (suc slot) (count_of page) ≡ false = ne_eqb (suc slot) (count_of page) (λ same. omega arith) in
    cond-false (nat_eq (suc slot) (count_of page)) (used_of page) (entry_from page (suc slot)) more ∙ ap (entry_from page) (sym (add-one slot))

-- the bytes between an entry's place and its end, as a loop has them at hand
pub entry_between : (page : List ℕ) (slot from to : ℕ) → from ≡ entry_from page slot → to ≡ entry_to page slot → take (to - from) (drop from page) ≡ entry_at page slot
entry_between page slot from to from-is to-is = ap (λ (place : ℕ). take (to - place) (drop place page)) from-is ∙ ap (λ (place : ℕ). take (place - entry_from page slot) (drop (entry_from page slot) page)) to-is

pub entries_stop : (test : List ℕ → Option ℕ) (page : List ℕ) (slot count byte : ℕ) → slot < count → test (entry_at page slot) ≡ Some byte → entries_fault test page slot (count - slot) ≡ Some (entry_from page slot + byte)
entries_stop test page slot count byte lt fails =
    entries_next test page slot count lt
    ∙ orelse_first (behind_place (entry_from page slot) (test (entry_at page slot))) (entries_fault test page (slot + 1) (count - (slot + 1))) (entry_from page slot + byte) (ap (behind_place (entry_from page slot)) fails)

pub entries_go_on : (test : List ℕ → Option ℕ) (page : List ℕ) (slot count : ℕ) → slot < count → test (entry_at page slot) ≡ None → entries_fault test page slot (count - slot) ≡ entries_fault test page (slot + 1) (count - (slot + 1))
entries_go_on test page slot count lt passes =
    entries_next test page slot count lt
    ∙ orelse_next (behind_place (entry_from page slot) (test (entry_at page slot))) (entries_fault test page (slot + 1) (count - (slot + 1))) (ap (behind_place (entry_from page slot)) passes)

pub zeros_next : (from : ℕ) (bytes : List ℕ) (at : ℕ) → at < length bytes → zeros_fault (from + at) (drop at bytes) ≡ (unless (nat_eq (get_or bytes at 0) 0) (from + at) orelse zeros_fault (from + (at + 1)) (drop (at + 1) bytes))
unfolding zeros_fault
zeros_next from bytes at lt =
    let rest = drop_more bytes at 0 lt in
    let next : suc (from + at) ≡ from + (at + 1) = omega arith in
    ap (zeros_fault (from + at)) rest ∙ ap (λ (place : ℕ). unless (nat_eq (get_or bytes at 0) 0) (from + at) orelse zeros_fault place (drop (at + 1) bytes)) next

pub zeros_end : (from : ℕ) (bytes : List ℕ) (at : ℕ) → length bytes ≤ at → zeros_fault from (drop at bytes) ≡ None
unfolding zeros_fault
zeros_end from bytes at le = rw (drop_all at bytes le) refl

pub zeros_stop : (from : ℕ) (bytes : List ℕ) (at : ℕ) → at < length bytes → (get_or bytes at 0 ≢ 0) → zeros_fault (from + at) (drop at bytes) ≡ Some (from + at)
zeros_stop from bytes at lt other =
    zeros_next from bytes at lt
    ∙ orelse_first (unless (nat_eq (get_or bytes at 0) 0) (from + at)) (zeros_fault (from + (at + 1)) (drop (at + 1) bytes)) (from + at) (unless_fails (nat_eq (get_or bytes at 0) 0) (from + at) (ne_eqb (get_or bytes at 0) 0 other))

pub zeros_go_on : (from : ℕ) (bytes : List ℕ) (at : ℕ) → at < length bytes → get_or bytes at 0 ≡ 0 → zeros_fault (from + at) (drop at bytes) ≡ zeros_fault (from + (at + 1)) (drop (at + 1) bytes)
zeros_go_on from bytes at lt same =
    zeros_next from bytes at lt
    ∙ orelse_next (unless (nat_eq (get_or bytes at 0) 0) (from + at)) (zeros_fault (from + (at + 1)) (drop (at + 1) bytes)) (unless_holds (nat_eq (get_or bytes at 0) 0) (from + at) (eq-eqb (get_or bytes at 0) 0 same))
