-- A page that moves 2 places down with an entry more, while its entries stay.
use Rattle.std.proofs.Common.{◌≡◌, ℕ, ◌+◌, ◌-◌, ◌*◌, ◌≤◌, List, [], ◌∷◌, ◌++◌, length, take, drop, replicate, refl, sym, ap, ◌∙◌, append_assoc, arith}
use Rattle.std.specs.Int.{w16, w32, to_be_bytes}
use Rattle.std.specs.List.{concat, copy_within}
use Rattle.std.proofs.lemmas.List.{take_at, length-append, length-drop, drop-take, length-replicate, replicate-append-replicate, take-append-drop}
use borrow.Rule.Slice.PartMut.{put_mid}
use Rattle.hv_page.specs.Layout.{offsets, used_by, entries_from, written_version, IsBegun}
use Rattle.hv_page.specs.Fault.{short_at}
use Rattle.hv_page.proofs.MakingWrites.{put_from, four_writes}
use Rattle.hv_page.proofs.MakingOffsets.{length-offsets}
use Rattle.hv_page.proofs.Making.{page_by, page_parts, page_by_grouped, page_more, used_more, zeros}

-- what is read behind two bytes
pub down_4 : (window : List ℕ) → short_at window 6 ≡ short_at (drop 2 window) 4
down_4 [] = refl
down_4 (a ∷ []) = refl
down_4 (a ∷ b ∷ page) = refl

pub down_6 : (window : List ℕ) → short_at window 8 ≡ short_at (drop 2 window) 6
down_6 [] = refl
down_6 (a ∷ []) = refl
down_6 (a ∷ b ∷ page) = refl

-- the header moves over the two bytes, and leaves its last two zeros before the offsets
pub header_down : (kind number count used : ℕ) (places body free window : List ℕ) → drop 2 window ≡ page_by kind number count used places body free
    → copy_within window 2 18 0 ≡ page_by kind number count used ((0 ∷ 0 ∷ []) ++ places) body free
header_down kind number count used places body free [] same = absurd cc
header_down kind number count used places body free (a ∷ []) same = absurd cc
header_down kind number count used places body free (a ∷ b ∷ page) same = rw same refl

pub places_down : (kind number : ℕ) (entries : List (List ℕ)) (window moved : List ℕ) (k : ℕ) → IsBegun kind number (drop 2 window) entries → moved ≡ copy_within window 2 18 0 → k ≡ 2 + 2 * length entries
    → drop 2 (take k (drop 16 moved)) ≡ offsets (entries_from (length entries)) entries
places_down kind number entries window moved k begun is k-is =
    let places = offsets (entries_from (length entries)) entries in
    let rest = concat entries ++ replicate (4096 - used_by entries) 0 in
    let all = is ∙ header_down kind number (length entries) (used_by entries) places (concat entries) (replicate (4096 - used_by entries) 0) window (begun.whole ∙ page_parts kind number entries) in
    ap (λ (n : ℕ). drop 2 (take n (drop 16 moved))) k-is
    ∙ drop-take 2 (2 * length entries) (drop 16 moved)
    ∙ ap (λ (bytes : List ℕ). take (2 * length entries) (drop 2 (drop 16 bytes))) all
    ∙ take_at places rest (2 * length entries) (length-offsets (entries_from (length entries)) entries)

-- the five writes behind it, on a page in parts
five_writes :
    (start count used tail places entries under free higher gap offset entry counted after : List ℕ) (at to k₂ k₃ k₄ : ℕ) →
    length start ≡ 4 → length count ≡ 2 → length used ≡ 2 → length tail ≡ 8 → length counted ≡ 2 → length offset ≡ 2 → length gap ≡ 2 →
    16 + length higher ≡ at → at + (2 + length entries) ≡ to →
    length places ≡ k₂ → 2 ≡ k₃ → length under ≡ k₄ →
    put_mid 6 2 (put_mid 4 2 (put_mid to k₄ (put_mid at k₃ (put_mid 16 k₂ (start ++ (count ++ (used ++ (tail ++ (places ++ (entries ++ (under ++ free))))))) (higher ++ gap)) offset) entry) counted) after
    ≡ start ++ (counted ++ (after ++ (tail ++ (higher ++ (offset ++ (entries ++ (entry ++ free)))))))
five_writes start count used tail places entries under free higher gap offset entry counted after at to k₂ k₃ k₄ l₁ l₂ l₃ l₄ l₅ l₆ l₇ at-is to-is e₂ e₃ e₄ =
    let w₂ = put_from (start ++ (count ++ (used ++ (tail ++ (places ++ (entries ++ (under ++ free))))))) (start ++ count ++ used ++ tail) places (entries ++ under ++ free) (higher ++ gap) 16 k₂
    (simp append_assoc) (simp length-append (omega arith)) e₂ in
    four_writes _ start count used tail higher gap entries under free offset entry counted after at to k₃ k₄
    (w₂ ∙ simp append_assoc) l₁ l₂ l₃ l₄ l₅ l₆ l₇ at-is to-is e₃ e₄

abbrev five_puts : ℕ → ℕ → ℕ → ℕ → ℕ → List ℕ → List ℕ → List ℕ → List ℕ → List ℕ → List ℕ → List ℕ
five_puts at to k₂ k₃ k₄ moved lowered offset entry counted after = put_mid 6 2 (put_mid 4 2 (put_mid to k₄ (put_mid at k₃ (put_mid 16 k₂ moved lowered) offset) entry) counted) after

-- the zeros under a new entry stand first behind the entries, and the last two are behind the page then
free_down : (used size : ℕ) → used + 2 + size ≤ 4096 → zeros (4096 - used) ≡ zeros size ++ (zeros (4096 - (used + 2 + size)) ++ zeros 2)
free_down used size fit =
    let split : 4096 - used ≡ size + ((4096 - (used + 2 + size)) + 2) = omega arith in
    ap zeros split ∙ sym (replicate-append-replicate size ((4096 - (used + 2 + size)) + 2) 0)
    ∙ ap (λ (later : List ℕ). zeros size ++ later) (sym (replicate-append-replicate (4096 - (used + 2 + size)) 2 0))

-- the first 4,096 bytes of a page and two more
page_and_two : (kind number count used : ℕ) (places body free : List ℕ) → 16 + length places + length body + length free ≡ 4096 → take 4096 (page_by kind number count used places body (free ++ zeros 2)) ≡ page_by kind number count used places body free
page_and_two kind number count used places body free long =
    let grouped : page_by kind number count used places body (free ++ zeros 2) ≡ page_by kind number count used places body free ++ zeros 2 = simp append_assoc in
    ap (take 4096) grouped ∙ take_at (page_by kind number count used places body free) (zeros 2) 4096 (simp length-append (omega (arith, long)))

-- with the header moved, the offsets lowered, and the rest written, the page 2 places before is the one with an entry more
pub pushed_down :
    (kind number : ℕ) (entries : List (List ℕ)) (window entry moved lowered offset copy counter final : List ℕ) (at to k₂ k₃ k₄ count used : ℕ) →
    offset ≡ to_be_bytes w16 to → copy ≡ entry → counter ≡ to_be_bytes w16 (count + 1) → final ≡ to_be_bytes w16 (to + length entry) →
    IsBegun kind number (drop 2 window) entries → used_by entries + 2 + length entry ≤ 4096 → length entries ≡ count → used_by entries ≡ used →
    moved ≡ copy_within window 2 18 0 → length lowered ≡ 2 + 2 * length entries → take (2 * length entries) lowered ≡ offsets (entries_from (length entries) + 2) entries →
    16 + 2 * count ≡ at → used + 2 ≡ to → 2 + 2 * count ≡ k₂ → 2 ≡ k₃ → length entry ≡ k₄ →
    IsBegun kind number (take 4096 (put_mid 6 2 (put_mid 4 2 (put_mid to k₄ (put_mid at k₃ (put_mid 16 k₂ moved lowered) offset) copy) counter) final)) (entries ++ entry ∷ [])
pushed_down kind number entries window entry moved lowered offset copy counter final at to k₂ k₃ k₄ count used offset-is copy-is counter-is final-is begun fit counted used-is moved-is lowered-len lowered-is at-is to-is e₂ e₃ e₄ =
    let tail = to_be_bytes w32 number ++ 0 ∷ 0 ∷ 0 ∷ 0 ∷ [] in
    let free = zeros (4096 - (used_by entries + 2 + length entry)) in
    let under = zeros (length entry) in
    let places = offsets (entries_from (length entries)) entries in
    let higher = offsets (entries_from (length entries) + 2) entries in
    let gap = drop (2 * length entries) lowered in
    let size = length-offsets (entries_from (length entries)) entries in
    let size' = length-offsets (entries_from (length entries) + 2) entries in
    let before = begun.whole ∙ page_parts kind number entries ∙ ap (λ (rest : List ℕ). page_by kind number (length entries) (used_by entries) places (concat entries) rest) (free_down (used_by entries) (length entry) fit) in
    let down = moved-is ∙ header_down kind number (length entries) (used_by entries) places (concat entries) (under ++ (free ++ zeros 2)) window before in
    let both : lowered ≡ higher ++ gap = sym (take-append-drop (2 * length entries) lowered) ∙ ap (λ (front : List ℕ). front ++ gap) lowered-is in
    let writes = five_writes (79 ∷ 68 ∷ kind ∷ written_version ∷ []) (to_be_bytes w16 (length entries)) (to_be_bytes w16 (used_by entries)) tail ((0 ∷ 0 ∷ []) ++ places) (concat entries) under (free ++ zeros 2) higher gap offset copy counter final at to k₂ k₃ k₄
    refl refl refl refl (ap length counter-is) (ap length offset-is) (omega (arith, length-drop (2 * length entries) lowered, lowered-len))
    (omega (arith, size')) (omega (arith, size')) (omega (arith, size)) e₃ (length-replicate {A = ℕ} (length entry) 0 ∙ e₄) in
    record {
      fit = omega (arith, used_more entries entry);
      whole =
          ap (λ (bytes : List ℕ). take 4096 (five_puts at to k₂ k₃ k₄ bytes lowered offset copy counter final)) down
          ∙ ap (λ (bytes : List ℕ). take 4096 (five_puts at to k₂ k₃ k₄ (page_by kind number (length entries) (used_by entries) ((0 ∷ 0 ∷ []) ++ places) (concat entries) (under ++ (free ++ zeros 2))) bytes offset copy counter final)) both
          ∙ ap (take 4096) (writes
          ∙ page_by_grouped kind number (count + 1) (to + length entry) higher offset (concat entries) copy (free ++ zeros 2) counter final counter-is final-is)
          ∙ page_and_two kind number (count + 1) (to + length entry) (higher ++ offset) (concat entries ++ copy) free
          (omega (arith, length-append higher offset, size', ap length offset-is, length-append (concat entries) copy, ap length copy-is, length-replicate {A = ℕ} (4096 - (used_by entries + 2 + length entry)) 0))
          ∙ page_more kind number entries entry offset copy to count offset-is copy-is counted (omega arith);
    }
