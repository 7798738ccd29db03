-- A page with no fault is made of the entries that are read from it.
use Rattle.std.proofs.Common.{◌≡◌, ℕ, zero, suc, ◌+◌, ◌-◌, ◌*◌, ◌<◌, ◌≤◌, true, ◌&&◌, cond, List, [], ◌∷◌, ◌++◌, length, get_or, take, drop, replicate, Option, None, refl, sym, ap, ◌∙◌, arith, inl, inr, length-append, length-take, length-drop}
use Rattle.std.specs.Prelude.{nat_eq, nat_lt, nat_le}
use Rattle.std.specs.Int.{w16, w32, to_be_bytes, from_be_bytes}
use Rattle.std.specs.List.{concat, AllByRecursion}
use Rattle.std.proofs.lemmas.Bool.{cases_eq, cond-true, cond-false, and_parts, eqb-true, ltb-true, leb-true, eq-eqb, ne_eqb}
use Rattle.std.proofs.lemmas.List.{take-append-drop, drop-drop}
use Rattle.std.proofs.Math.Seq.{take-add}
use Rattle.std.proofs.lemmas.Nat.{be_bytes_2, be_bytes_4}
use Rattle.hv_row.proofs.Reading.{IsBytes, IsBytes-drop, IsBytes-take}
use Rattle.hv_page.specs.Layout.{entries_from, used_by, offsets, header, page_of, Fit}
use Rattle.hv_page.specs.Fault.{◌orelse◌, unless, short_at, count_of, used_of, entry_from, entry_to, entry_at, byte_fault, start_fault, count_fault, used_fault, number_fault, offset_fits, offsets_fault, entries_fault, zeros_fault, page_fault, entries_left, entries_of, IsReadable}
use Rattle.hv_page.proofs.Points.{orelse_parts, unless_none, offsets_fit, entries_pass, zeros_are}
use Rattle.hv_page.proofs.Reading.{page_behind, entries_left_length}

-- ---- bytes

-- the bytes of a number that was read are those that it was read from
short_spelt : (page : List ℕ) (at : ℕ) → IsBytes page → at + 2 ≤ length page → to_be_bytes w16 (short_at page at) ≡ take 2 (drop at page)
short_spelt page at fits le =
    be_bytes_2 (take 2 (drop at page)) (short_at page at) (omega (arith, length-take 2 (drop at page), length-drop at page)) (IsBytes-take 2 (drop at page) (IsBytes-drop at page fits)) refl

number_spelt : (page : List ℕ) → IsBytes page → 12 ≤ length page → to_be_bytes w32 (from_be_bytes w32 (take 4 (drop 8 page))) ≡ take 4 (drop 8 page)
number_spelt page fits le =
    be_bytes_4 (take 4 (drop 8 page)) (from_be_bytes w32 (take 4 (drop 8 page))) (omega (arith, length-take 4 (drop 8 page), length-drop 8 page)) (IsBytes-take 4 (drop 8 page) (IsBytes-drop 8 page fits)) refl

-- two parts side by side
take_both : (a b at : ℕ) (page : List ℕ) → take a (drop at page) ++ take b (drop (at + a) page) ≡ take (a + b) (drop at page)
take_both a b at page =
    ap (λ (rest : List ℕ). take a (drop at page) ++ take b rest) (sym (drop-drop a at page)) ∙ sym (take-add a b (drop at page))

-- ---- the first 16 bytes

first_bytes : (kind version : ℕ) (page : List ℕ) → 16 ≤ length page → get_or page 0 0 ≡ 79 → get_or page 1 0 ≡ 68 → get_or page 2 0 ≡ kind → get_or page 3 0 ≡ version
    → get_or page 12 0 ≡ 0 → get_or page 13 0 ≡ 0 → get_or page 14 0 ≡ 0 → get_or page 15 0 ≡ 0
    → take 16 page ≡ 79 ∷ 68 ∷ kind ∷ version ∷ take 2 (drop 4 page) ++ take 2 (drop 6 page) ++ take 4 (drop 8 page) ++ 0 ∷ 0 ∷ 0 ∷ 0 ∷ []
first_bytes kind version (a ∷ b ∷ c ∷ d ∷ e ∷ f ∷ g ∷ h ∷ i ∷ j ∷ k ∷ l ∷ m ∷ n ∷ o ∷ p ∷ rest) le p0 p1 p2 p3 p12 p13 p14 p15 = cc
first_bytes kind version _ le p0 p1 p2 p3 p12 p13 p14 p15 = absurd (omega arith)

byte_is : (page : List ℕ) (at byte : ℕ) → byte_fault page at byte ≡ None → get_or page at 0 ≡ byte
byte_is page at byte none = eqb-true (get_or page at 0) byte (unless_none (nat_eq (get_or page at 0) byte) at none)

header_is : (kind version number : ℕ) (page : List ℕ) (entries : List (List ℕ)) → IsBytes page → 16 ≤ length page → start_fault kind version page ≡ None → number_fault number page ≡ None
    → count_of page ≡ length entries → used_of page ≡ used_by entries → take 16 page ≡ header kind version number entries
header_is kind version number page entries fits le start numbered count used =
    let s0 = orelse_parts (byte_fault page 0 79) (byte_fault page 1 68 orelse byte_fault page 2 kind orelse byte_fault page 3 version) start in
    let s1 = orelse_parts (byte_fault page 1 68) (byte_fault page 2 kind orelse byte_fault page 3 version) s0.1 in
    let s2 = orelse_parts (byte_fault page 2 kind) (byte_fault page 3 version) s1.1 in
    let n = from_be_bytes w32 (take 4 (drop 8 page)) in
    let n0 = orelse_parts (unless (nat_eq n number) 8) (byte_fault page 12 0 orelse byte_fault page 13 0 orelse byte_fault page 14 0 orelse byte_fault page 15 0) numbered in
    let n1 = orelse_parts (byte_fault page 12 0) (byte_fault page 13 0 orelse byte_fault page 14 0 orelse byte_fault page 15 0) n0.1 in
    let n2 = orelse_parts (byte_fault page 13 0) (byte_fault page 14 0 orelse byte_fault page 15 0) n1.1 in
    let n3 = orelse_parts (byte_fault page 14 0) (byte_fault page 15 0) n2.1 in
    let number_is : n ≡ number = eqb-true n number (unless_none (nat_eq n number) 8 n0.0) in
    let counted : take 2 (drop 4 page) ≡ to_be_bytes w16 (length entries) = sym (short_spelt page 4 fits (omega arith)) ∙ ap (to_be_bytes w16) count in
    let ended : take 2 (drop 6 page) ≡ to_be_bytes w16 (used_by entries) = sym (short_spelt page 6 fits (omega arith)) ∙ ap (to_be_bytes w16) used in
    let four : take 4 (drop 8 page) ≡ to_be_bytes w32 number = sym (number_spelt page fits (omega arith)) ∙ ap (to_be_bytes w32) number_is in
    first_bytes kind version page le (byte_is page 0 79 s0.0) (byte_is page 1 68 s1.0) (byte_is page 2 kind s2.0) (byte_is page 3 version s2.1)
    (byte_is page 12 0 n1.0) (byte_is page 13 0 n2.0) (byte_is page 14 0 n3.0) (byte_is page 15 0 n3.1)
    ∙ ap (λ (x : List ℕ). 79 ∷ 68 ∷ kind ∷ version ∷ x ++ take 2 (drop 6 page) ++ take 4 (drop 8 page) ++ 0 ∷ 0 ∷ 0 ∷ 0 ∷ []) counted
    ∙ ap (λ (x : List ℕ). 79 ∷ 68 ∷ kind ∷ version ∷ to_be_bytes w16 (length entries) ++ x ++ take 4 (drop 8 page) ++ 0 ∷ 0 ∷ 0 ∷ 0 ∷ []) ended
    ∙ ap (λ (x : List ℕ). 79 ∷ 68 ∷ kind ∷ version ∷ to_be_bytes w16 (length entries) ++ to_be_bytes w16 (used_by entries) ++ x ++ 0 ∷ 0 ∷ 0 ∷ 0 ∷ []) four

-- ---- the places of the entries

-- the place of an entry, or of the end at the number of all
abbrev pub place_in : List ℕ → ℕ → ℕ
place_in page slot = cond (nat_eq slot (count_of page)) (used_of page) (entry_from page slot)

place_below : (page : List ℕ) (slot : ℕ) → slot < count_of page → place_in page slot ≡ entry_from page slot
place_below page slot lt = cond-false (nat_eq slot (count_of page)) (used_of page) (entry_from page slot) (ne_eqb slot (count_of page) (λ same. omega arith))

place_end : (page : List ℕ) (slot : ℕ) → slot ≡ count_of page → place_in page slot ≡ used_of page
place_end page slot same = cond-true (nat_eq slot (count_of page)) (used_of page) (entry_from page slot) (eq-eqb slot (count_of page) same)

-- the entries stand one behind the other
pub record IsOrdered (page : List ℕ) : Type 0 where
  pub first : entry_from page 0 ≡ entries_from (count_of page)
  pub up : (slot : ℕ) → slot < count_of page → entry_from page slot < entry_to page slot
  pub within : (slot : ℕ) → slot < count_of page → entry_to page slot ≤ used_of page

fits_below : (page : List ℕ) (slot : ℕ) → offset_fits page slot ≡ true → entry_from page slot < used_of page
fits_below page zero fit =
    ltb-true (entry_from page 0) (used_of page) (and_parts (nat_eq (entry_from page 0) (entries_from (count_of page))) (nat_lt (entry_from page 0) (used_of page)) fit).1
fits_below page (suc slot) fit =
    ltb-true (entry_from page (suc slot)) (used_of page) (and_parts (nat_lt (entry_from page slot) (entry_from page (suc slot))) (nat_lt (entry_from page (suc slot)) (used_of page)) fit).1

pub ordered : (page : List ℕ) → 0 < count_of page → offsets_fault page 0 (count_of page) ≡ None → IsOrdered page
ordered page some none =
    let fit = λ (slot : ℕ) (lt : slot < count_of page). offsets_fit page 0 (count_of page) none slot (omega arith) (omega arith) in
    let next = λ (slot : ℕ) (lt : suc slot < count_of page). ltb-true (entry_from page slot) (entry_from page (suc slot)) (and_parts (nat_lt (entry_from page slot) (entry_from page (suc slot))) (nat_lt (entry_from page (suc slot)) (used_of page)) (fit (suc slot) lt)).0 in
    record {
      first = eqb-true (entry_from page 0) (entries_from (count_of page)) (and_parts (nat_eq (entry_from page 0) (entries_from (count_of page))) (nat_lt (entry_from page 0) (used_of page)) (fit 0 some)).0;
      up = λ slot lt. elim (cases_eq (suc slot) (count_of page)) [
        | inl last ↦ omega (arith, place_end page (suc slot) last, fits_below page slot (fit slot lt))
        | inr more ↦ omega (arith, place_below page (suc slot) (omega arith), next slot (omega arith))
      ];
      within = λ slot lt. elim (cases_eq (suc slot) (count_of page)) [
        | inl last ↦ omega (arith, place_end page (suc slot) last)
        | inr more ↦ omega (arith, place_below page (suc slot) (omega arith), fits_below page (suc slot) (fit (suc slot) (omega arith)))
      ];
    }

-- what stands in a page from an entry on
record HasFrom (page : List ℕ) (slot left : ℕ) : Type 0 where
  long : place_in page slot + length (concat (entries_left page slot left)) ≡ used_of page
  bytes : concat (entries_left page slot left) ≡ take (used_of page - place_in page slot) (drop (place_in page slot) page)
  places : offsets (place_in page slot) (entries_left page slot left) ≡ take (2 * left) (drop (entries_from slot) page)

has_from : (page : List ℕ) (slot left : ℕ) → IsBytes page → IsOrdered page → slot + left ≡ count_of page → used_of page ≤ length page → entries_from (count_of page) ≤ length page → HasFrom page slot left
unfolding offsets entries_left
has_from page slot zero fits order all used room =
    let end = place_end page slot (omega arith) in
    let none : used_of page - place_in page slot ≡ 0 = omega arith in
    record { long = omega arith; bytes = rw none refl; places = refl }
has_from page slot (suc left) fits order all used room =
    let lt : slot < count_of page = omega arith in
    let later = has_from page (suc slot) left fits order (omega arith) used room in
    let here = place_below page slot lt in
    let up = order.up slot lt in
    let within = order.within slot lt in
    let entry = entry_at page slot in
    let others = entries_left page (suc slot) left in
    let long : length entry ≡ entry_to page slot - entry_from page slot = omega (arith, length-take (entry_to page slot - entry_from page slot) (drop (entry_from page slot) page), length-drop (entry_from page slot) page) in
    let next : entry_from page slot + (entry_to page slot - entry_from page slot) ≡ entry_to page slot = omega arith in
    let both : (entry_to page slot - entry_from page slot) + (used_of page - entry_to page slot) ≡ used_of page - entry_from page slot = omega arith in
    let after : entry_from page slot + length entry ≡ entry_to page slot = omega arith in
    let two : 2 + 2 * left ≡ 2 * suc left = omega arith in
    let behind : entries_from slot + 2 ≡ entries_from (suc slot) = omega arith in
    let joined : entry ++ concat others ≡ take (used_of page - entry_from page slot) (drop (entry_from page slot) page) =
    ap (λ (x : List ℕ). entry ++ x) later.bytes
    ∙ ap (λ (at : ℕ). entry ++ take (used_of page - entry_to page slot) (drop at page)) (sym next)
    ∙ take_both (entry_to page slot - entry_from page slot) (used_of page - entry_to page slot) (entry_from page slot) page
    ∙ ap (λ (n : ℕ). take n (drop (entry_from page slot) page)) both in
    let listed : to_be_bytes w16 (entry_from page slot) ++ offsets (entry_from page slot + length entry) others ≡ take (2 * suc left) (drop (entries_from slot) page) =
    ap (λ (at : ℕ). to_be_bytes w16 (entry_from page slot) ++ offsets at others) after
    ∙ ap (λ (x : List ℕ). to_be_bytes w16 (entry_from page slot) ++ x) later.places
    ∙ ap (λ (x : List ℕ). x ++ take (2 * left) (drop (entries_from (suc slot)) page)) (short_spelt page (entries_from slot) fits (omega arith))
    ∙ ap (λ (at : ℕ). take 2 (drop (entries_from slot) page) ++ take (2 * left) (drop at page)) (sym behind)
    ∙ take_both 2 (2 * left) (entries_from slot) page
    ∙ ap (λ (n : ℕ). take n (drop (entries_from slot) page)) two in
    record {
      long = omega (arith, length-append entry (concat others), later.long);
      bytes = rw here joined;
      places = rw here listed;
    }

-- ---- the whole page

-- the limits that the count and the end keep
pub record HasRoom (page : List ℕ) : Type 0 where
  pub some : 0 < count_of page
  pub offsets : entries_from (count_of page) ≤ 4096
  pub behind : entries_from (count_of page) < used_of page
  pub within : used_of page ≤ 4096

pub has_room : (page : List ℕ) → count_fault page ≡ None → used_fault page ≡ None → HasRoom page
has_room page counted used =
    let c = and_parts (nat_lt 0 (count_of page)) (nat_le (entries_from (count_of page)) 4096) (unless_none (nat_lt 0 (count_of page) && nat_le (entries_from (count_of page)) 4096) 4 counted) in
    let u = and_parts (nat_lt (entries_from (count_of page)) (used_of page)) (nat_le (used_of page) 4096) (unless_none (nat_lt (entries_from (count_of page)) (used_of page) && nat_le (used_of page) 4096) 6 used) in
    record {
      some = ltb-true 0 (count_of page) c.0;
      offsets = leb-true (entries_from (count_of page)) 4096 c.1;
      behind = ltb-true (entries_from (count_of page)) (used_of page) u.0;
      within = leb-true (used_of page) 4096 u.1;
    }

-- what a page with no fault is made of
pub record IsMade (kind version number : ℕ) (test : List ℕ → Option ℕ) (page : List ℕ) : Type 0 where
  pub some : 0 < length (entries_of page)
  pub fit : Fit (entries_of page)
  pub each : AllByRecursion (λ entry. test entry ≡ None) (entries_of page)
  pub whole : page ≡ page_of kind version number (entries_of page)

pub made : (kind version number : ℕ) (test : List ℕ → Option ℕ) (page : List ℕ) → IsBytes page → length page ≡ 4096 → page_fault kind version number test page ≡ None → IsMade kind version number test page
made kind version number test page fits long none =
    let count = count_of page in
    let used = used_of page in
    let entries = entries_of page in
    let f0 = orelse_parts (start_fault kind version page) _ none in
    let f1 = orelse_parts (count_fault page) _ f0.1 in
    let f2 = orelse_parts (used_fault page) _ f1.1 in
    let f3 = orelse_parts (number_fault number page) _ f2.1 in
    let f4 = orelse_parts (offsets_fault page 0 count) _ f3.1 in
    let f5 = orelse_parts (entries_fault test page 0 count) (zeros_fault used (drop used page)) f4.1 in
    let room = has_room page f1.0 f2.0 in
    let order = ordered page room.some f4.0 in
    let here = place_below page 0 room.some in
    let all = has_from page 0 count fits order (omega arith) (omega arith) (omega arith) in
    let counted : length entries ≡ count = entries_left_length page 0 count in
    let ends : used ≡ used_by entries = omega (arith, all.long, order.first) in
    let from : place_in page 0 ≡ entries_from count = here ∙ order.first in
    let head = header_is kind version number page entries fits (omega arith) f0.0 f3.0 (sym counted) ends in
    let zeros : drop used page ≡ replicate (4096 - used) 0 = zeros_are used (drop used page) f5.1 ∙ ap (λ (n : ℕ). replicate n 0) (omega (arith, length-drop used page)) in
    let places : take (2 * count) (drop 16 page) ≡ offsets (entries_from (length entries)) entries = sym all.places ∙ ap (λ (at : ℕ). offsets at entries) (from ∙ ap entries_from (sym counted)) in
    let bytes : take (used - entries_from count) (drop (entries_from count) page) ≡ concat entries = ap (λ (at : ℕ). take (used - at) (drop at page)) (sym from) ∙ sym all.bytes in
    let over : entries_from count + (used - entries_from count) ≡ used = omega arith in
    let behind : drop (entries_from count) page ≡ concat entries ++ replicate (4096 - used) 0 =
    sym (take-append-drop (used - entries_from count) (drop (entries_from count) page))
    ∙ ap (λ (x : List ℕ). x ++ drop (used - entries_from count) (drop (entries_from count) page)) bytes
    ∙ ap (λ (x : List ℕ). concat entries ++ x) (drop-drop (used - entries_from count) (entries_from count) page ∙ ap (λ (at : ℕ). drop at page) over ∙ zeros) in
    let later : drop 16 page ≡ offsets (entries_from (length entries)) entries ++ (concat entries ++ replicate (4096 - used) 0) =
    sym (take-append-drop (2 * count) (drop 16 page))
    ∙ ap (λ (x : List ℕ). x ++ drop (2 * count) (drop 16 page)) places
    ∙ ap (λ (x : List ℕ). offsets (entries_from (length entries)) entries ++ x) (drop-drop (2 * count) 16 page ∙ behind) in
    let whole : page ≡ page_of kind version number entries =
    sym (take-append-drop 16 page)
    ∙ ap (λ (x : List ℕ). x ++ drop 16 page) head
    ∙ ap (λ (x : List ℕ). header kind version number entries ++ x) (later ∙ ap (λ (n : ℕ). offsets (entries_from (length entries)) entries ++ (concat entries ++ replicate (4096 - n) 0)) ends)
    ∙ sym (page_behind kind version number entries) in
    record {
      some = omega arith;
      fit = omega arith;
      each = entries_pass test page 0 count f5.0;
      whole = whole;
    }

-- a page whose limits and offsets have no fault can be read
pub readable : (page : List ℕ) → length page ≡ 4096 → count_fault page ≡ None → used_fault page ≡ None → offsets_fault page 0 (count_of page) ≡ None → IsReadable page (count_of page)
readable page long counted used placed =
    let room = has_room page counted used in
    let order = ordered page room.some placed in
    record {
      bytes = long;
      counted = refl;
      room = room.offsets;
      inside = λ slot lt. (omega (arith, order.up slot lt), omega (arith, order.within slot lt));
    }
