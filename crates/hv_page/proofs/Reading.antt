-- A made page, read back: its parts stand where the page says, and are the entries that it was made of.
use Rattle.std.proofs.Common.{◌≡◌, ℕ, zero, suc, ◌+◌, ◌-◌, ◌*◌, ◌^◌, ◌<◌, ◌≤◌, List, [], ◌∷◌, ◌++◌, length, get_or, take, drop, replicate, refl, sym, ap, ◌∙◌, append_assoc, arith, inl, inr, length-append}
use Rattle.std.specs.Int.{w16, w32, to_be_bytes, from_be_bytes}
use Rattle.std.specs.List.{concat}
use Rattle.std.specs.Prelude.{nat_eq}
use Rattle.std.proofs.lemmas.Bool.{cases_eq, cond-true, cond-false, eq-eqb, ne_eqb}
use Rattle.std.proofs.lemmas.List.{take_at, take_all, drop_at, drop-drop, length-replicate, ext_get_or}
use Rattle.std.proofs.lemmas.Nat.{from_be_bytes-to_be_bytes_2, from_be_bytes-to_be_bytes_4}
use Rattle.hv_page.specs.Layout.{entries_from, used_by, offsets, header, page_of, Fit}
use Rattle.hv_page.specs.Fault.{count_of, used_of, entry_from, entry_to, entry_at, entries_left, entries_of}
use Rattle.hv_page.proofs.MakingOffsets.{length-offsets}

-- the place of an entry in a page of these entries; that of the last one's end at the number of all
abbrev pub place : List (List ℕ) → ℕ → ℕ
place entries slot = entries_from (length entries) + length (concat (take slot entries))

-- the offset of an entry
offset_at : (slot from : ℕ) (entries : List (List ℕ)) (rest : List ℕ) → slot < length entries → take 2 (drop (2 * slot) (offsets from entries ++ rest)) ≡ to_be_bytes w16 (from + length (concat (take slot entries)))
unfolding offsets
offset_at slot from [] rest lt = absurd (omega arith)
offset_at zero from (entry ∷ entries) rest lt = ap (to_be_bytes w16) (omega arith)
offset_at (suc slot) from (entry ∷ entries) rest lt =
    let two : 2 * suc slot ≡ suc (suc (2 * slot)) = omega arith in
    let later = offset_at slot (from + length entry) entries rest (omega arith) in
    let far : (from + length entry) + length (concat (take slot entries)) ≡ from + length (entry ++ concat (take slot entries)) = omega (arith, length-append entry (concat (take slot entries))) in
    rw two (later ∙ ap (to_be_bytes w16) far)

-- an entry among the bytes of all
bytes_at : (slot : ℕ) (entries : List (List ℕ)) (rest : List ℕ) → slot < length entries → take (length (get_or entries slot [])) (drop (length (concat (take slot entries))) (concat entries ++ rest)) ≡ get_or entries slot []
bytes_at slot [] rest lt = absurd (omega arith)
bytes_at zero (entry ∷ entries) rest lt = rw (append_assoc entry (concat entries) rest) (take_at entry (concat entries ++ rest) (length entry) refl)
bytes_at (suc slot) (entry ∷ entries) rest lt =
    let before = concat (take slot entries) in
    let over : drop (length entry + length before) (entry ++ (concat entries ++ rest)) ≡ drop (length before) (concat entries ++ rest) =
    sym (drop-drop (length before) (length entry) (entry ++ (concat entries ++ rest))) ∙ ap (drop (length before)) (drop_at entry (concat entries ++ rest) (length entry) refl) in
    rw (append_assoc entry (concat entries) rest, length-append entry before, over) (bytes_at slot entries rest (omega arith))

-- what stands behind the first 16 bytes
abbrev pub behind_header : List (List ℕ) → List ℕ
behind_header entries = offsets (entries_from (length entries)) entries ++ (concat entries ++ replicate (4096 - used_by entries) 0)

pub page_behind : (kind version number : ℕ) (entries : List (List ℕ)) → page_of kind version number entries ≡ header kind version number entries ++ behind_header entries
page_behind kind version number entries =
    let o = offsets (entries_from (length entries)) entries in
    let z = replicate {A = ℕ} (4096 - used_by entries) 0 in
    simp append_assoc

pub page_length : (kind version number : ℕ) (entries : List (List ℕ)) → Fit entries → length (page_of kind version number entries) ≡ 4096
page_length kind version number entries fit =
    let o = offsets (entries_from (length entries)) entries in
    let z = replicate {A = ℕ} (4096 - used_by entries) 0 in
    omega (arith, length-append (header kind version number entries ++ o ++ concat entries) z, length-append (header kind version number entries ++ o) (concat entries), length-append (header kind version number entries) o, length-offsets (entries_from (length entries)) entries, length-replicate {A = ℕ} (4096 - used_by entries) 0)

pub made_count : (kind version number : ℕ) (entries : List (List ℕ)) → Fit entries → count_of (page_of kind version number entries) ≡ length entries
made_count kind version number entries fit = from_be_bytes-to_be_bytes_2 (length entries) (omega arith)

pub made_used : (kind version number : ℕ) (entries : List (List ℕ)) → Fit entries → used_of (page_of kind version number entries) ≡ used_by entries
made_used kind version number entries fit = from_be_bytes-to_be_bytes_2 (used_by entries) (omega arith)

pub made_number : (kind version number : ℕ) (entries : List (List ℕ)) → number < 2 ^ 32 → from_be_bytes w32 (take 4 (drop 8 (page_of kind version number entries))) ≡ number
made_number kind version number entries lt = from_be_bytes-to_be_bytes_4 number lt

pub place_within : (entries : List (List ℕ)) (slot : ℕ) → length (concat (take slot entries)) ≤ length (concat entries)
place_within [] zero = omega arith
place_within [] (suc slot) = omega arith
place_within (entry ∷ entries) zero = omega arith
place_within (entry ∷ entries) (suc slot) = omega (arith, place_within entries slot, length-append entry (concat (take slot entries)), length-append entry (concat entries))

pub made_from : (kind version number : ℕ) (entries : List (List ℕ)) (slot : ℕ) → Fit entries → slot < length entries → entry_from (page_of kind version number entries) slot ≡ place entries slot
made_from kind version number entries slot fit lt =
    let page = page_of kind version number entries in
    let behind : drop (entries_from slot) page ≡ drop (2 * slot) (behind_header entries) =
    sym (drop-drop (2 * slot) 16 page) ∙ ap (λ (p : List ℕ). drop (2 * slot) (drop 16 p)) (page_behind kind version number entries) in
    let here = offset_at slot (entries_from (length entries)) entries (concat entries ++ replicate (4096 - used_by entries) 0) lt in
    ap (λ (p : List ℕ). from_be_bytes w16 (take 2 p)) behind ∙ ap (from_be_bytes w16) here ∙ from_be_bytes-to_be_bytes_2 (place entries slot) (omega (arith, place_within entries slot))

pub place_all : (entries : List (List ℕ)) → place entries (length entries) ≡ used_by entries
place_all entries = rw (take_all (length entries) entries (omega arith)) refl

pub place_next : (entries : List (List ℕ)) (slot : ℕ) → slot < length entries → length (concat (take (suc slot) entries)) ≡ length (concat (take slot entries)) + length (get_or entries slot [])
place_next [] slot lt = absurd (omega arith)
place_next (entry ∷ entries) zero lt = omega (arith, length-append entry [])
place_next (entry ∷ entries) (suc slot) lt =
    omega (arith, place_next entries slot (omega arith), length-append entry (concat (take slot entries)), length-append entry (concat (take (suc slot) entries)))

pub made_to : (kind version number : ℕ) (entries : List (List ℕ)) (slot : ℕ) → Fit entries → slot < length entries → entry_to (page_of kind version number entries) slot ≡ place entries (suc slot)
made_to kind version number entries slot fit lt =
    let page = page_of kind version number entries in
    let counted : nat_eq (suc slot) (count_of page) ≡ nat_eq (suc slot) (length entries) = ap (nat_eq (suc slot)) (made_count kind version number entries fit) in
    elim (cases_eq (suc slot) (length entries)) [
      | inl last ↦ cond-true (nat_eq (suc slot) (count_of page)) (used_of page) (entry_from page (suc slot)) (counted ∙ eq-eqb (suc slot) (length entries) last)
          ∙ made_used kind version number entries fit ∙ sym (place_all entries) ∙ ap (place entries) (sym last)
      | inr more ↦ cond-false (nat_eq (suc slot) (count_of page)) (used_of page) (entry_from page (suc slot)) (counted ∙ ne_eqb (suc slot) (length entries) more)
          ∙ made_from kind version number entries (suc slot) fit (omega arith)
    ]

-- the entry at a slot is the one that the page was made of
pub made_entry : (kind version number : ℕ) (entries : List (List ℕ)) (slot : ℕ) → Fit entries → slot < length entries → entry_at (page_of kind version number entries) slot ≡ get_or entries slot []
made_entry kind version number entries slot fit lt =
    let page = page_of kind version number entries in
    let from = made_from kind version number entries slot fit lt in
    let to = made_to kind version number entries slot fit lt in
    let long : place entries (suc slot) - place entries slot ≡ length (get_or entries slot []) = omega (arith, place_next entries slot lt) in
    let o = offsets (entries_from (length entries)) entries in
    let rest = concat entries ++ replicate {A = ℕ} (4096 - used_by entries) 0 in
    let over : drop (place entries slot) page ≡ drop (length (concat (take slot entries))) rest =
    sym (drop-drop (length (concat (take slot entries))) (entries_from (length entries)) page)
    ∙ ap (drop (length (concat (take slot entries)))) (
    sym (drop-drop (2 * length entries) 16 page)
    ∙ ap (λ (p : List ℕ). drop (2 * length entries) (drop 16 p)) (page_behind kind version number entries)
    ∙ drop_at o rest (2 * length entries) (length-offsets (entries_from (length entries)) entries)) in
    rw (from, to, long, over) (bytes_at slot entries (replicate (4096 - used_by entries) 0) lt)

-- the zeros behind the entries
pub made_zeros : (kind version number : ℕ) (entries : List (List ℕ)) → Fit entries → drop (used_by entries) (page_of kind version number entries) ≡ replicate (4096 - used_by entries) 0
made_zeros kind version number entries fit =
    let o = offsets (entries_from (length entries)) entries in
    drop_at (header kind version number entries ++ o ++ concat entries) (replicate (4096 - used_by entries) 0) (used_by entries)
    (omega (arith, length-append (header kind version number entries ++ o) (concat entries), length-append (header kind version number entries) o, length-offsets (entries_from (length entries)) entries))

-- entries from a slot on are read one by one
pub entries_left_length : (page : List ℕ) (slot left : ℕ) → length (entries_left page slot left) ≡ left
unfolding entries_left
entries_left_length page slot zero = refl
entries_left_length page slot (suc left) = ap suc (entries_left_length page (suc slot) left)

pub entries_left_at : (page : List ℕ) (slot left k : ℕ) → k < left → get_or (entries_left page slot left) k [] ≡ entry_at page (slot + k)
unfolding entries_left
entries_left_at page slot zero k lt = absurd (omega arith)
entries_left_at page slot (suc left) zero lt = ap (entry_at page) (omega arith)
entries_left_at page slot (suc left) (suc k) lt =
    let moved : suc slot + k ≡ slot + suc k = omega arith in
    entries_left_at page (suc slot) left k (omega arith) ∙ ap (entry_at page) moved

-- the entries of a made page are those that it was made of
pub made_entries : (kind version number : ℕ) (entries : List (List ℕ)) → Fit entries → entries_of (page_of kind version number entries) ≡ entries
made_entries kind version number entries fit =
    let page = page_of kind version number entries in
    let counted = made_count kind version number entries fit in
    let long : length (entries_of page) ≡ length entries = entries_left_length page 0 (count_of page) ∙ counted in
    ext_get_or [] (entries_of page) entries long
    (λ slot lt. entries_left_at page 0 (count_of page) slot (omega arith) ∙ ap (entry_at page) (omega arith) ∙ made_entry kind version number entries slot fit (omega arith))
