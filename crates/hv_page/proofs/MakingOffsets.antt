-- The places of entries: of one entry more, and raised one after the other.
use Rattle.std.proofs.Common.{◌≡◌, ℕ, ◌+◌, ◌*◌, ◌<◌, ◌≤◌, List, [], ◌∷◌, ◌++◌, length, take, drop, get_or, refl, sym, ap, ◌∙◌, append_assoc, append-nil, add-zero, arith}
use Rattle.std.specs.Int.{w16, to_be_bytes}
use Rattle.std.specs.List.{concat}
use Rattle.std.proofs.lemmas.List.{drop_at, length-append, length-take-le, take_more, drop_more, take_all, drop_all, take-append-drop}
use Rattle.std.proofs.lemmas.List.Folds.{concat-append}
use Rattle.std.proofs.lemmas.Nat.{from_be_bytes-to_be_bytes_2}
use borrow.Rule.Slice.PartMut.{put_mid}
use Rattle.hv_page.specs.Layout.{offsets}
use Rattle.hv_page.specs.Fault.{short_at}
use Rattle.hv_page.proofs.MakingWrites.{put_from}

-- entries joined end to end, and one more
pub concat_more : (entries : List (List ℕ)) (entry : List ℕ) → concat (entries ++ entry ∷ []) ≡ concat entries ++ entry
concat_more entries entry = concat-append entries (entry ∷ []) ∙ ap (λ (last : List ℕ). concat entries ++ last) (append-nil entry)

-- 2 bytes each
pub length-offsets : (from : ℕ) (entries : List (List ℕ)) → length (offsets from entries) ≡ 2 * length entries
unfolding offsets
length-offsets from [] = refl
length-offsets from (entry ∷ entries) = omega (arith, length-offsets (from + length entry) entries)

-- the offset of one entry more
pub offsets_more : (from : ℕ) (entries : List (List ℕ)) (entry : List ℕ) → offsets from (entries ++ entry ∷ []) ≡ offsets from entries ++ to_be_bytes w16 (from + length (concat entries))
unfolding offsets
offsets_more from [] entry = ap (to_be_bytes w16) (sym (add-zero from))
offsets_more from (first ∷ entries) entry =
    let there : (from + length first) + length (concat entries) ≡ from + length (concat (first ∷ entries)) = omega (arith, length-append first (concat entries)) in
    ap (λ (rest : List ℕ). to_be_bytes w16 from ++ rest) (offsets_more (from + length first) entries entry ∙ ap (λ (at : ℕ). offsets (from + length first) entries ++ to_be_bytes w16 at) there)

-- offsets of which so many are raised
unfoldable pub raised : ℕ → ℕ → List (List ℕ) → List ℕ
raised slots from entries = offsets (from + 2) (take slots entries) ++ offsets (from + length (concat (take slots entries))) (drop slots entries)

-- the next one that isn't
abbrev pub next_offset : ℕ → ℕ → List (List ℕ) → ℕ
next_offset slots from entries = from + length (concat (take slots entries))

-- none at first, and all of them in the end
pub raised_none : (from : ℕ) (entries : List (List ℕ)) → raised 0 from entries ≡ offsets from entries
unfolding raised offsets
raised_none from entries = rw add-zero refl

pub length-raised : (slots from : ℕ) (entries : List (List ℕ)) → length (raised slots from entries) ≡ 2 * length entries
unfolding raised
length-raised slots from entries =
    omega (arith, length-append (offsets (from + 2) (take slots entries)) (offsets (next_offset slots from entries) (drop slots entries)), length-offsets (from + 2) (take slots entries), length-offsets (next_offset slots from entries) (drop slots entries), length-append (take slots entries) (drop slots entries), ap length (take-append-drop slots entries))

-- the next offset, behind those that are raised
pub record Next (slots from : ℕ) (entries : List (List ℕ)) (front back : List ℕ) : Type 0 where
  pub here : raised slots from entries ≡ front ++ (to_be_bytes w16 (next_offset slots from entries) ++ back)
  pub then : raised (slots + 1) from entries ≡ front ++ (to_be_bytes w16 (next_offset slots from entries + 2) ++ back)
  pub len : length front ≡ 2 * slots
  pub small : next_offset slots from entries ≤ from + length (concat entries)

pub next_of : (slots from : ℕ) (entries : List (List ℕ)) → slots < length entries → Next slots from entries (offsets (from + 2) (take slots entries)) (offsets (next_offset (slots + 1) from entries) (drop (slots + 1) entries))
unfolding raised offsets
next_of slots from entries lt =
    let entry = get_or entries slots [] in
    let done = take slots entries in
    let left = drop (slots + 1) entries in
    let taken : take (slots + 1) entries ≡ done ++ entry ∷ [] = take_more entries slots [] lt in
    let longer : length (concat (take (slots + 1) entries)) ≡ length (concat done) + length entry =
    ap (λ (some : List (List ℕ)). length (concat some)) taken ∙ ap length (concat_more done entry) ∙ length-append (concat done) entry in
    let later : (from + length (concat done)) + length entry ≡ from + length (concat (take (slots + 1) entries)) = omega (arith, longer) in
    let higher : (from + 2) + length (concat done) ≡ from + length (concat done) + 2 = omega arith in
    let split : length (concat entries) ≡ length (concat done) + length (concat (drop slots entries)) =
    ap (λ (some : List (List ℕ)). length (concat some)) (sym (take-append-drop slots entries)) ∙ ap length (concat-append done (drop slots entries)) ∙ length-append (concat done) (concat (drop slots entries)) in
    record {
      here =
          ap (λ (rest : List (List ℕ)). offsets (from + 2) done ++ offsets (from + length (concat done)) rest) (drop_more entries slots [] lt)
          ∙ ap (λ (at : ℕ). offsets (from + 2) done ++ (to_be_bytes w16 (from + length (concat done)) ++ offsets at left)) later;
      then =
          ap (λ (some : List (List ℕ)). offsets (from + 2) some ++ offsets (from + length (concat (take (slots + 1) entries))) left) taken
          ∙ ap (λ (some : List ℕ). some ++ offsets (from + length (concat (take (slots + 1) entries))) left) (offsets_more (from + 2) done entry)
          ∙ append_assoc (offsets (from + 2) done) (to_be_bytes w16 ((from + 2) + length (concat done))) (offsets (from + length (concat (take (slots + 1) entries))) left)
          ∙ ap (λ (at : ℕ). offsets (from + 2) done ++ (to_be_bytes w16 at ++ offsets (from + length (concat (take (slots + 1) entries))) left)) higher;
      len = length-offsets (from + 2) done ∙ ap (λ (n : ℕ). 2 * n) (length-take-le slots entries (omega arith));
      small = omega (arith, split);
    }

-- the number that is read there
pub read_next : (slots from : ℕ) (entries : List (List ℕ)) (bytes : List ℕ) → bytes ≡ raised slots from entries → slots < length entries → from + length (concat entries) ≤ 4096 → short_at bytes (2 * slots) ≡ next_offset slots from entries
read_next slots from entries bytes same lt fit =
    let next = next_of slots from entries lt in
    let front = offsets (from + 2) (take slots entries) in
    let back = offsets (next_offset (slots + 1) from entries) (drop (slots + 1) entries) in
    let here = to_be_bytes w16 (next_offset slots from entries) in
    rw (same, next.here, drop_at front (here ++ back) (2 * slots) next.len) (from_be_bytes-to_be_bytes_2 (next_offset slots from entries) (omega (arith, next.small)))

-- and written
pub write_next : (slots from : ℕ) (entries : List (List ℕ)) (bytes pair : List ℕ) (k : ℕ) → bytes ≡ raised slots from entries → slots < length entries → pair ≡ to_be_bytes w16 (next_offset slots from entries + 2) → 2 ≡ k → put_mid (2 * slots) k bytes pair ≡ raised (slots + 1) from entries
write_next slots from entries bytes pair k same lt is k-is =
    let next = next_of slots from entries lt in
    let front = offsets (from + 2) (take slots entries) in
    let back = offsets (next_offset (slots + 1) from entries) (drop (slots + 1) entries) in
    put_from bytes front (to_be_bytes w16 (next_offset slots from entries)) back pair (2 * slots) k (same ∙ next.here) next.len k-is
    ∙ ap (λ (some : List ℕ). front ++ (some ++ back)) is
    ∙ sym next.then

pub raised_all : (slots from : ℕ) (entries : List (List ℕ)) → length entries ≤ slots → raised slots from entries ≡ offsets (from + 2) entries
unfolding raised offsets
raised_all slots from entries le = rw (take_all slots entries le, drop_all slots entries le) (append-nil (offsets (from + 2) entries))
