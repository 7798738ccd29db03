-- Pages that are begun: what is read from one, and what a push makes of it.
use Rattle.std.proofs.Common.{◌≡◌, ℕ, ◌+◌, ◌-◌, ◌*◌, ◌≤◌, List, [], ◌∷◌, ◌++◌, length, take, drop, replicate, refl, sym, ap, ◌∙◌, append_assoc, arith}
use Rattle.std.specs.Int.{w16, w32, to_be_bytes}
use Rattle.std.specs.List.{concat}
use Rattle.std.proofs.lemmas.List.{take_at, drop_at, length-append, length-take-le, length-replicate, replicate-append-replicate, take-append-drop}
use Rattle.std.proofs.lemmas.Nat.{from_be_bytes-to_be_bytes_2}
use borrow.Rule.Slice.PartMut.{put_mid}
use Rattle.hv_page.specs.Layout.{offsets, used_by, entries_from, page_of, written_version, IsBegun}
use Rattle.hv_page.specs.Fault.{short_at}
use Rattle.hv_page.proofs.MakingWrites.{six_writes}
use Rattle.hv_page.proofs.MakingOffsets.{concat_more, length-offsets, offsets_more}

-- a page of one entry more
pub length_more : (entries : List (List ℕ)) (entry : List ℕ) → length (entries ++ entry ∷ []) ≡ length entries + 1
length_more entries entry = length-append entries (entry ∷ [])

pub used_more : (entries : List (List ℕ)) (entry : List ℕ) → used_by (entries ++ entry ∷ []) ≡ used_by entries + 2 + length entry
used_more entries entry = omega (arith, length_more entries entry, ap length (concat_more entries entry), length-append (concat entries) entry)

-- so many zeros
abbrev pub zeros : ℕ → List ℕ
zeros count = replicate count 0

zeros_three : (whole first second third : ℕ) → whole ≡ first + (second + third) → zeros whole ≡ zeros first ++ (zeros second ++ zeros third)
zeros_three whole first second third is =
    ap zeros is ∙ sym (replicate-append-replicate first (second + third) 0) ∙ ap (λ (later : List ℕ). zeros first ++ later) (sym (replicate-append-replicate second third 0))

-- a page in parts, by the numbers in it
abbrev pub page_by : ℕ → ℕ → ℕ → ℕ → List ℕ → List ℕ → List ℕ → List ℕ
page_by kind number count used places body free =
    (79 ∷ 68 ∷ kind ∷ written_version ∷ []) ++ (to_be_bytes w16 count ++ (to_be_bytes w16 used ++ ((to_be_bytes w32 number ++ 0 ∷ 0 ∷ 0 ∷ 0 ∷ []) ++ (places ++ (body ++ free)))))

pub page_parts : (kind number : ℕ) (entries : List (List ℕ)) → page_of kind written_version number entries ≡ page_by kind number (length entries) (used_by entries) (offsets (entries_from (length entries)) entries) (concat entries) (zeros (4096 - used_by entries))
page_parts kind number entries = simp append_assoc

-- what is read from a page that was begun
pub record Read (page : List ℕ) (entries : List (List ℕ)) : Type 0 where
  pub long : length page ≡ 4096
  pub counted : short_at page 4 ≡ length entries
  pub used : short_at page 6 ≡ used_by entries
  pub places : take (2 * length entries) (drop 16 page) ≡ offsets (entries_from (length entries)) entries
  pub room : 16 + 2 * length entries + length (concat entries) ≤ 4096

pub read_of : (kind number : ℕ) (page : List ℕ) (entries : List (List ℕ)) → IsBegun kind number page entries → Read page entries
read_of kind number page entries begun =
    let is = begun.whole ∙ page_parts kind number entries in
    let places = offsets (entries_from (length entries)) entries in
    let free = zeros (4096 - used_by entries) in
    let size = length-offsets (entries_from (length entries)) entries in
    record {
      long = ap length is ∙ simp (length-append, length-replicate, size) (omega (arith, begun.fit));
      counted = ap (λ (bytes : List ℕ). short_at bytes 4) is ∙ from_be_bytes-to_be_bytes_2 (length entries) (omega (arith, begun.fit));
      used = ap (λ (bytes : List ℕ). short_at bytes 6) is ∙ from_be_bytes-to_be_bytes_2 (used_by entries) (omega (arith, begun.fit));
      places = ap (λ (bytes : List ℕ). take (2 * length entries) (drop 16 bytes)) is ∙ take_at places (concat entries ++ free) (2 * length entries) size;
      room = begun.fit;
    }

-- the two zeros and those under a new entry stand first behind the entries
pub free_split : (used size : ℕ) → used + 2 + size ≤ 4096 → zeros (4096 - used) ≡ zeros 2 ++ (zeros size ++ zeros (4096 - (used + 2 + size)))
free_split used size fit = zeros_three (4096 - used) 2 size (4096 - (used + 2 + size)) (omega arith)

-- the six writes by themselves
abbrev six_puts : ℕ → ℕ → ℕ → ℕ → ℕ → ℕ → List ℕ → List ℕ → List ℕ → List ℕ → List ℕ → List ℕ → List ℕ → List ℕ
six_puts at to k₁ k₂ k₃ k₄ page moved higher offset entry counted after = put_mid 6 2 (put_mid 4 2 (put_mid to k₄ (put_mid at k₃ (put_mid 16 k₂ (put_mid at k₁ page moved) higher) offset) entry) counted) after

-- parts that are equal, one by one
page_by_same : (kind number c d u v : ℕ) (p q b a f g : List ℕ) → c ≡ d → u ≡ v → p ≡ q → b ≡ a → f ≡ g → page_by kind number c u p b f ≡ page_by kind number d v q a g
page_by_same kind number c d u v p q b a f g e₁ e₂ e₃ e₄ e₅ = cc

-- the offsets and the entries with the new one behind them
pub page_by_grouped : (kind number c u : ℕ) (p q b a f counter final : List ℕ) → counter ≡ to_be_bytes w16 c → final ≡ to_be_bytes w16 u →
    (79 ∷ 68 ∷ kind ∷ written_version ∷ []) ++ (counter ++ (final ++ ((to_be_bytes w32 number ++ 0 ∷ 0 ∷ 0 ∷ 0 ∷ []) ++ (p ++ (q ++ (b ++ (a ++ f)))))))
    ≡ page_by kind number c u (p ++ q) (b ++ a) f
page_by_grouped kind number c u p q b a f counter final counter-is final-is = rw (counter-is, final-is) (simp append_assoc)

-- with the offsets raised and one behind them, and an entry behind the others, these are the parts of the page of one entry more
pub page_more : (kind number : ℕ) (entries : List (List ℕ)) (entry offset copy : List ℕ) (to count : ℕ) →
    offset ≡ to_be_bytes w16 to → copy ≡ entry → length entries ≡ count → used_by entries + 2 ≡ to →
    page_by kind number (count + 1) (to + length entry) (offsets (entries_from (length entries) + 2) entries ++ offset) (concat entries ++ copy) (zeros (4096 - (used_by entries + 2 + length entry)))
    ≡ page_of kind written_version number (entries ++ entry ∷ [])
page_more kind number entries entry offset copy to count offset-is copy-is counted to-is =
    let after = entries ++ entry ∷ [] in
    let from : entries_from (length entries) + 2 ≡ entries_from (length after) = omega (arith, length_more entries entry) in
    let next : entries_from (length entries) + 2 + length (concat entries) ≡ to = omega arith in
    let higher = offsets (entries_from (length entries) + 2) entries in
    let offsets-are : higher ++ offset ≡ offsets (entries_from (length after)) after =
    ap (λ (some : List ℕ). higher ++ some) offset-is
    ∙ ap (λ (place : ℕ). higher ++ to_be_bytes w16 place) (sym next)
    ∙ sym (offsets_more (entries_from (length entries) + 2) entries entry)
    ∙ ap (λ (place : ℕ). offsets place after) from in
    let ended : to + length entry ≡ used_by after = omega (arith, used_more entries entry) in
    let unused : 4096 - (used_by entries + 2 + length entry) ≡ 4096 - used_by after = omega (arith, used_more entries entry) in
    page_by_same kind number (count + 1) (length after) (to + length entry) (used_by after) (higher ++ offset) (offsets (entries_from (length after)) after) (concat entries ++ copy) (concat after) (zeros (4096 - (used_by entries + 2 + length entry))) (zeros (4096 - used_by after))
    (omega (arith, length_more entries entry)) ended offsets-are (ap (λ (some : List ℕ). concat entries ++ some) copy-is ∙ sym (concat_more entries entry)) (ap zeros unused)
    ∙ sym (page_parts kind number after)

-- with the entries moved, the offsets raised, and the rest written, a page is the one with an entry more
pub pushed :
    (kind number : ℕ) (entries : List (List ℕ)) (page entry moved higher offset copy counter final : List ℕ) (at to k₁ k₂ k₃ k₄ count used : ℕ) →
    offset ≡ to_be_bytes w16 to → copy ≡ entry → counter ≡ to_be_bytes w16 (count + 1) → final ≡ to_be_bytes w16 (to + length entry) →
    IsBegun kind number page entries → used_by entries + 2 + length entry ≤ 4096 → length entries ≡ count → used_by entries ≡ used →
    length moved ≡ 2 + length (concat entries) → drop 2 moved ≡ concat entries → higher ≡ offsets (entries_from (length entries) + 2) entries →
    16 + 2 * count ≡ at → used + 2 ≡ to → 2 + length (concat entries) ≡ k₁ → 2 * count ≡ k₂ → 2 ≡ k₃ → length entry ≡ k₄ →
    IsBegun kind number (put_mid 6 2 (put_mid 4 2 (put_mid to k₄ (put_mid at k₃ (put_mid 16 k₂ (put_mid at k₁ page moved) higher) offset) copy) counter) final) (entries ++ entry ∷ [])
pushed kind number entries page entry moved higher offset copy counter final at to k₁ k₂ k₃ k₄ count used offset-is copy-is counter-is final-is begun fit counted used-is moved-len moved-is higher-is at-is to-is e₁ e₂ e₃ e₄ =
    let tail = to_be_bytes w32 number ++ 0 ∷ 0 ∷ 0 ∷ 0 ∷ [] in
    let free = zeros (4096 - (used_by entries + 2 + length entry)) in
    let under = zeros (length entry) in
    let pair = take 2 moved in
    let places = offsets (entries_from (length entries)) entries in
    let before = begun.whole ∙ page_parts kind number entries ∙ ap (λ (rest : List ℕ). page_by kind number (length entries) (used_by entries) places (concat entries) rest) (free_split (used_by entries) (length entry) fit) in
    let both : moved ≡ pair ++ concat entries = sym (take-append-drop 2 moved) ∙ ap (λ (rest : List ℕ). pair ++ rest) moved-is in
    let size = length-offsets (entries_from (length entries)) entries in
    let size' : length higher ≡ length places = ap length higher-is ∙ length-offsets (entries_from (length entries) + 2) entries ∙ sym size in
    let writes = six_writes (79 ∷ 68 ∷ kind ∷ written_version ∷ []) (to_be_bytes w16 (length entries)) (to_be_bytes w16 (used_by entries)) tail places (concat entries) (zeros 2) under free pair higher offset copy counter final at to k₁ k₂ k₃ k₄
    refl refl refl refl (ap length counter-is) (ap length offset-is) (omega (arith, length-take-le 2 moved (omega (arith, moved-len)))) size'
    (omega (arith, size)) (omega (arith, size)) (omega (arith, size)) (omega (arith, size)) e₃ (length-replicate (length entry) 0 ∙ e₄) in
    record {
      fit = omega (arith, used_more entries entry);
      whole =
          ap (λ (bytes : List ℕ). six_puts at to k₁ k₂ k₃ k₄ bytes moved higher offset copy counter final) before
          ∙ ap (λ (bytes : List ℕ). six_puts at to k₁ k₂ k₃ k₄ (page_by kind number (length entries) (used_by entries) places (concat entries) (zeros 2 ++ (under ++ free))) bytes higher offset copy counter final) both
          ∙ writes
          ∙ page_by_grouped kind number (count + 1) (to + length entry) higher offset (concat entries) copy free counter final counter-is final-is
          ∙ ap (λ (some : List ℕ). page_by kind number (count + 1) (to + length entry) (some ++ offset) (concat entries ++ copy) free) higher-is
          ∙ page_more kind number entries entry offset copy to count offset-is copy-is counted (omega arith);
    }

-- the entries and the two zeros behind them
pub moving : (kind number : ℕ) (entries : List (List ℕ)) (page : List ℕ) (at k : ℕ) → IsBegun kind number page entries → used_by entries + 2 ≤ 4096 → 16 + 2 * length entries ≡ at → 2 + length (concat entries) ≡ k → take k (drop at page) ≡ concat entries ++ zeros 2
moving kind number entries page at k begun fit at-is k-is =
    let places = offsets (entries_from (length entries)) entries in
    let head = (79 ∷ 68 ∷ kind ∷ written_version ∷ []) ++ (to_be_bytes w16 (length entries) ++ (to_be_bytes w16 (used_by entries) ++ (to_be_bytes w32 number ++ 0 ∷ 0 ∷ 0 ∷ 0 ∷ []))) in
    let body = concat entries ++ zeros 2 in
    let free = zeros 0 ++ zeros (4096 - (used_by entries + 2 + 0)) in
    let is : page ≡ (head ++ places) ++ (body ++ free) =
    begun.whole ∙ page_parts kind number entries ∙ ap (λ (rest : List ℕ). page_by kind number (length entries) (used_by entries) places (concat entries) rest) (free_split (used_by entries) 0 (omega arith)) ∙ simp append_assoc in
    ap (λ (bytes : List ℕ). take k (drop at bytes)) is
    ∙ ap (take k) (drop_at (head ++ places) (body ++ free) at (omega (arith, length-offsets (entries_from (length entries)) entries)))
    ∙ take_at body free k (omega (arith, length-append (concat entries) (zeros 2)))

-- all but the last two of those
pub but_two : (entries : List (List ℕ)) (part : List ℕ) → part ≡ concat entries ++ zeros 2 → take (length part - 2) part ≡ concat entries
but_two entries part is =
    ap (λ (bytes : List ℕ). take (length bytes - 2) bytes) is ∙ take_at (concat entries) (zeros 2) (length (concat entries ++ zeros 2) - 2) (omega (arith, length-append (concat entries) (zeros 2)))

-- as many as those
pub and_two : (entries : List (List ℕ)) (part : List ℕ) → part ≡ concat entries ++ zeros 2 → length part ≡ 2 + length (concat entries)
and_two entries part is = omega (arith, ap length is, length-append (concat entries) (zeros 2))

-- ---- a page without an entry

-- the header over zeros, of which the rest is left
pub begun_is : (kind number : ℕ) (page letters used written : List ℕ) (long limit : ℕ) → page ≡ zeros long → long ≡ limit → 16 ≤ limit → letters ≡ 79 ∷ 68 ∷ kind ∷ written_version ∷ [] → used ≡ to_be_bytes w16 16 → written ≡ to_be_bytes w32 number →
    put_mid 8 4 (put_mid 6 2 (letters ++ drop 4 page) used) written ≡ page_by kind number 0 16 [] [] (zeros (limit - 16))
begun_is kind number page letters used written long limit page-is long-is some letters-is used-is written-is =
    let split : page ≡ zeros 16 ++ (zeros 0 ++ zeros (limit - 16)) = page-is ∙ zeros_three long 16 0 (limit - 16) (omega arith) in
    rw (letters-is, used-is, written-is, split) (refl {a = page_by kind number 0 16 [] [] (zeros (limit - 16))})
