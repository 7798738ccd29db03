-- A page that is made of entries that pass the test has no fault.
use Rattle.std.proofs.Common.{◌≡◌, ℕ, zero, suc, ◌-◌, ◌^◌, ◌<◌, true, ◌&&◌, List, [], length, get_or, take, drop, Option, None, refl, ap, ◌∙◌, arith}
use Rattle.std.specs.Prelude.{nat_eq, nat_lt, nat_le}
use Rattle.std.specs.Int.{w32, from_be_bytes}
use Rattle.std.proofs.lemmas.Bool.{and_from, eq-eqb, lt-ltb, le-leb}
use Rattle.hv_page.specs.Layout.{entries_from, used_by, page_of, Fit}
use Rattle.hv_page.specs.Fault.{◌orelse◌, unless, count_of, used_of, entry_from, byte_fault, start_fault, count_fault, used_fault, number_fault, offset_fits, offsets_fault, entries_fault, zeros_fault, page_fault}
use Rattle.hv_page.proofs.Points.{orelse_next, unless_holds, offsets_none, entries_none, zeros_none}
use Rattle.hv_page.proofs.Reading.{place_next, place_within, made_count, made_used, made_number, made_from, made_entry, made_zeros}

byte_none : (page : List ℕ) (at byte : ℕ) → get_or page at 0 ≡ byte → byte_fault page at byte ≡ None
byte_none page at byte is = unless_holds (nat_eq (get_or page at 0) byte) at (eq-eqb (get_or page at 0) byte is)

two_none : (a b : Option ℕ) → a ≡ None → b ≡ None → (a orelse b) ≡ None
two_none a b first next = orelse_next a b first ∙ next

-- seven points without a fault
all_none : (a b c d e f g : Option ℕ) → a ≡ None → b ≡ None → c ≡ None → d ≡ None → e ≡ None → f ≡ None → g ≡ None → (a orelse b orelse c orelse d orelse e orelse f orelse g) ≡ None
all_none a b c d e f g p q r s t u v =
    orelse_next a _ p ∙ orelse_next b _ q ∙ orelse_next c _ r ∙ orelse_next d _ s ∙ orelse_next e _ t ∙ orelse_next f _ u ∙ v

-- an offset of a page made of entries with bytes
made_offset_fits : (kind version number : ℕ) (entries : List (List ℕ)) → Fit entries → ((slot : ℕ) → slot < length entries → 0 < length (get_or entries slot [])) → (slot : ℕ) → slot < length entries → offset_fits (page_of kind version number entries) slot ≡ true
made_offset_fits kind version number entries fit full zero lt =
    let page = page_of kind version number entries in
    let from = made_from kind version number entries 0 fit lt in
    let counted = made_count kind version number entries fit in
    let used = made_used kind version number entries fit in
    let next = place_next entries 0 lt in
    let within = place_within entries 1 in
    and_from (nat_eq (entry_from page 0) (entries_from (count_of page))) (nat_lt (entry_from page 0) (used_of page))
    (eq-eqb (entry_from page 0) (entries_from (count_of page)) (omega arith))
    (lt-ltb (entry_from page 0) (used_of page) (omega (arith, full 0 lt)))
made_offset_fits kind version number entries fit full (suc slot) lt =
    let page = page_of kind version number entries in
    let before = made_from kind version number entries slot fit (omega arith) in
    let from = made_from kind version number entries (suc slot) fit lt in
    let used = made_used kind version number entries fit in
    let next = place_next entries slot (omega arith) in
    let after = place_next entries (suc slot) lt in
    let within = place_within entries (suc (suc slot)) in
    and_from (nat_lt (entry_from page slot) (entry_from page (suc slot))) (nat_lt (entry_from page (suc slot)) (used_of page))
    (lt-ltb (entry_from page slot) (entry_from page (suc slot)) (omega (arith, full slot (omega arith))))
    (lt-ltb (entry_from page (suc slot)) (used_of page) (omega (arith, full (suc slot) lt)))

pub made_faultless : (kind version number : ℕ) (test : List ℕ → Option ℕ) (entries : List (List ℕ)) → number < 2 ^ 32 → Fit entries → 0 < length entries
    → ((slot : ℕ) → slot < length entries → (test (get_or entries slot []) ≡ None) × (0 < length (get_or entries slot [])))
    → page_fault kind version number test (page_of kind version number entries) ≡ None
made_faultless kind version number test entries lt fit some each =
    let page = page_of kind version number entries in
    let counted = made_count kind version number entries fit in
    let used = made_used kind version number entries fit in
    let full = λ (slot : ℕ) (below : slot < length entries). (each slot below).1 in
    let has_some : 0 < length (get_or entries 0 []) = full 0 some in
    let within = place_within entries 1 in
    let next = place_next entries 0 some in
    let start : start_fault kind version page ≡ None =
    two_none (byte_fault page 2 kind) (byte_fault page 3 version) (byte_none page 2 kind refl) (byte_none page 3 version refl) in
    let room : count_fault page ≡ None =
    unless_holds (nat_lt 0 (count_of page) && nat_le (entries_from (count_of page)) 4096) 4
    (and_from (nat_lt 0 (count_of page)) (nat_le (entries_from (count_of page)) 4096) (lt-ltb 0 (count_of page) (omega arith)) (le-leb (entries_from (count_of page)) 4096 (omega arith))) in
    let inside : used_fault page ≡ None =
    unless_holds (nat_lt (entries_from (count_of page)) (used_of page) && nat_le (used_of page) 4096) 6
    (and_from (nat_lt (entries_from (count_of page)) (used_of page)) (nat_le (used_of page) 4096) (lt-ltb (entries_from (count_of page)) (used_of page) (omega arith)) (le-leb (used_of page) 4096 (omega arith))) in
    let numbered : number_fault number page ≡ None =
    two_none (unless (nat_eq (from_be_bytes w32 (take 4 (drop 8 page))) number) 8) None
    (unless_holds (nat_eq (from_be_bytes w32 (take 4 (drop 8 page))) number) 8 (eq-eqb (from_be_bytes w32 (take 4 (drop 8 page))) number (made_number kind version number entries lt))) refl in
    let placed : offsets_fault page 0 (count_of page) ≡ None =
    offsets_none page 0 (count_of page) (λ k above below. made_offset_fits kind version number entries fit full k (omega arith)) in
    let passed : entries_fault test page 0 (count_of page) ≡ None =
    entries_none test page 0 (count_of page) (λ k above below. ap test (made_entry kind version number entries k fit (omega arith)) ∙ (each k (omega arith)).0) in
    let empty : zeros_fault (used_of page) (drop (used_of page) page) ≡ None =
    ap (λ (at : ℕ). zeros_fault (used_of page) (drop at page)) used ∙ ap (zeros_fault (used_of page)) (made_zeros kind version number entries fit) ∙ zeros_none (used_of page) (4096 - used_by entries) in
    all_none _ _ _ _ _ _ _ start room inside numbered placed passed empty
