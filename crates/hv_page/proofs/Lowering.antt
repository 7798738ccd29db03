-- Offsets that move 2 places down one after the other, and are raised.
use Rattle.std.proofs.Common.{◌≡◌, ℕ, ◌+◌, ◌*◌, ◌<◌, ◌≤◌, List, [], ◌++◌, length, take, drop, get_or, refl, sym, ap, ◌∙◌, append_assoc, add-zero, arith}
use Rattle.std.specs.Int.{w16, to_be_bytes}
use Rattle.std.specs.List.{concat}
use Rattle.std.proofs.lemmas.List.{take_at, drop_at, length-append, length-take-le, take_more, drop_more, take_all, take-append-drop}
use Rattle.std.proofs.lemmas.List.Folds.{concat-append}
use Rattle.std.proofs.lemmas.Nat.{from_be_bytes-to_be_bytes_2}
use borrow.Rule.Slice.PartMut.{put_mid}
use Rattle.hv_page.specs.Layout.{offsets}
use Rattle.hv_page.specs.Fault.{short_at}
use Rattle.hv_page.proofs.MakingOffsets.{concat_more, length-offsets, offsets_more, next_offset}
use Rattle.hv_page.proofs.MakingWrites.{put_from}

-- so many offsets are raised and moved, and 2 bytes of no use stand before the others
pub record Lowered (slots from : ℕ) (entries : List (List ℕ)) (bytes : List ℕ) : Type 0 where
  pub gap : List ℕ
  pub two : length gap ≡ 2
  pub is : bytes ≡ offsets (from + 2) (take slots entries) ++ (gap ++ offsets (next_offset slots from entries) (drop slots entries))

pub lowered_none : (from : ℕ) (entries : List (List ℕ)) (bytes : List ℕ) → drop 2 bytes ≡ offsets from entries → 2 ≤ length bytes → Lowered 0 from entries bytes
unfolding offsets
lowered_none from entries bytes same some = record {
  gap = take 2 bytes;
  two = length-take-le 2 bytes some;
  is = sym (take-append-drop 2 bytes) ∙ ap (λ (rest : List ℕ). take 2 bytes ++ rest) (same ∙ ap (λ (at : ℕ). offsets at entries) (sym (add-zero from)));
}

-- those that are left begin with the next one
pub left_more : (slots from : ℕ) (entries : List (List ℕ)) → slots < length entries
    → offsets (next_offset slots from entries) (drop slots entries) ≡ to_be_bytes w16 (next_offset slots from entries) ++ offsets (next_offset (slots + 1) from entries) (drop (slots + 1) entries)
unfolding offsets
left_more slots from entries lt =
    let entry = get_or entries slots [] in
    let done = take slots entries in
    let left = drop (slots + 1) entries in
    let longer : length (concat (take (slots + 1) entries)) ≡ length (concat done) + length entry =
    ap (λ (some : List (List ℕ)). length (concat some)) (take_more entries slots [] lt) ∙ ap length (concat_more done entry) ∙ length-append (concat done) entry in
    let later : (from + length (concat done)) + length entry ≡ from + length (concat (take (slots + 1) entries)) = omega (arith, longer) in
    ap (λ (rest : List (List ℕ)). offsets (from + length (concat done)) rest) (drop_more entries slots [] lt)
    ∙ ap (λ (at : ℕ). to_be_bytes w16 (from + length (concat done)) ++ offsets at left) later

done_more : (slots from : ℕ) (entries : List (List ℕ)) → slots < length entries
    → offsets (from + 2) (take slots entries) ++ to_be_bytes w16 (next_offset slots from entries + 2) ≡ offsets (from + 2) (take (slots + 1) entries)
done_more slots from entries lt =
    let done = take slots entries in
    let higher : next_offset slots from entries + 2 ≡ (from + 2) + length (concat done) = omega arith in
    ap (λ (at : ℕ). offsets (from + 2) done ++ to_be_bytes w16 at) higher
    ∙ sym (offsets_more (from + 2) done (get_or entries slots []))
    ∙ ap (λ (some : List (List ℕ)). offsets (from + 2) some) (sym (take_more entries slots [] lt))

done_long : (slots from : ℕ) (entries : List (List ℕ)) → slots ≤ length entries → length (offsets (from + 2) (take slots entries)) ≡ 2 * slots
done_long slots from entries le = length-offsets (from + 2) (take slots entries) ∙ ap (λ (n : ℕ). 2 * n) (length-take-le slots entries le)

-- no offset is over the last place
pub next_small : (slots from : ℕ) (entries : List (List ℕ)) → next_offset slots from entries ≤ from + length (concat entries)
next_small slots from entries =
    let split : length (concat entries) ≡ length (concat (take slots entries)) + length (concat (drop slots entries)) =
    ap (λ (some : List (List ℕ)). length (concat some)) (sym (take-append-drop slots entries)) ∙ ap length (concat-append (take slots entries) (drop slots entries)) ∙ length-append (concat (take slots entries)) (concat (drop slots entries)) in
    omega (arith, split)

-- the number that is read
pub read_lower : (slots from : ℕ) (entries : List (List ℕ)) (bytes : List ℕ) → Lowered slots from entries bytes → slots < length entries → from + length (concat entries) ≤ 4096 → short_at bytes (2 * slots + 2) ≡ next_offset slots from entries
read_lower slots from entries bytes now lt fit =
    let front = offsets (from + 2) (take slots entries) in
    let here = to_be_bytes w16 (next_offset slots from entries) in
    let back = offsets (next_offset (slots + 1) from entries) (drop (slots + 1) entries) in
    let grouped : bytes ≡ (front ++ now.gap) ++ (here ++ back) =
    now.is ∙ ap (λ (rest : List ℕ). front ++ (now.gap ++ rest)) (left_more slots from entries lt) ∙ sym (append_assoc front now.gap (here ++ back)) in
    let long : length (front ++ now.gap) ≡ 2 * slots + 2 = omega (arith, length-append front now.gap, now.two, done_long slots from entries (omega arith)) in
    ap (λ (b : List ℕ). short_at b (2 * slots + 2)) grouped
    ∙ rw (drop_at (front ++ now.gap) (here ++ back) (2 * slots + 2) long) (from_be_bytes-to_be_bytes_2 (next_offset slots from entries) (omega (arith, next_small slots from entries)))

-- and written
pub write_lower : (slots from : ℕ) (entries : List (List ℕ)) (bytes pair : List ℕ) (k : ℕ) → Lowered slots from entries bytes → slots < length entries → pair ≡ to_be_bytes w16 (next_offset slots from entries + 2) → 2 ≡ k → Lowered (slots + 1) from entries (put_mid (2 * slots) k bytes pair)
write_lower slots from entries bytes pair k now lt is k-is =
    let front = offsets (from + 2) (take slots entries) in
    let here = to_be_bytes w16 (next_offset slots from entries) in
    let back = offsets (next_offset (slots + 1) from entries) (drop (slots + 1) entries) in
    record {
      gap = here;
      two = refl;
      is = put_from bytes front now.gap (here ++ back) pair (2 * slots) k (now.is ∙ ap (λ (rest : List ℕ). front ++ (now.gap ++ rest)) (left_more slots from entries lt)) (done_long slots from entries (omega arith)) (now.two ∙ k-is)
          ∙ sym (append_assoc front pair (here ++ back))
          ∙ ap (λ (some : List ℕ). (front ++ some) ++ (here ++ back)) is
          ∙ ap (λ (some : List ℕ). some ++ (here ++ back)) (done_more slots from entries lt);
    }

-- all of them in the end
pub lowered_all : (slots from : ℕ) (entries : List (List ℕ)) (bytes : List ℕ) → Lowered slots from entries bytes → slots ≡ length entries → take (2 * length entries) bytes ≡ offsets (from + 2) entries
lowered_all slots from entries bytes now all =
    let front = offsets (from + 2) (take slots entries) in
    ap (take (2 * length entries)) now.is
    ∙ take_at front (now.gap ++ offsets (next_offset slots from entries) (drop slots entries)) (2 * length entries) (done_long slots from entries (omega arith) ∙ ap (λ (n : ℕ). 2 * n) all)
    ∙ ap (λ (some : List (List ℕ)). offsets (from + 2) some) (take_all slots entries (omega arith))
