-- Writes into a part of a list that is seen as parts.
use Rattle.std.proofs.Common.{◌≡◌, ℕ, ◌+◌, ◌≤◌, List, ◌++◌, length, take, drop, refl, sym, ap, ◌∙◌, append_assoc, arith}
use Rattle.std.proofs.lemmas.List.{take_at, drop_at, length-append, length-take, length-drop, drop-take}
use Rattle.std.proofs.lemmas.Slice.{take-put_mid_below}
use borrow.Rule.Slice.PartMut.{put_mid}

-- a part in the middle, written anew
pub put_at : (front part back new : List ℕ) (at size : ℕ) → length front ≡ at → length part ≡ size → put_mid at size (front ++ (part ++ back)) new ≡ front ++ (new ++ back)
put_at front part back new at size p q = rw (take_at front (part ++ back) at p, drop_at front (part ++ back) at p, drop_at part back size q) refl

-- a part in the middle of what is grouped in another way
pub put_from : (whole front part back new : List ℕ) (at size : ℕ) → whole ≡ front ++ (part ++ back) → length front ≡ at → length part ≡ size → put_mid at size whole new ≡ front ++ (new ++ back)
put_from whole front part back new at size is p q = ap (λ (bytes : List ℕ). put_mid at size bytes new) is ∙ put_at front part back new at size p q

-- the last four writes of a push, on a page in parts whose entries and offsets have moved: one offset more, the entry, the count and the first place behind
pub four_writes :
    (page start count used tail higher gap entries under free offset entry counted after : List ℕ) (at to k₃ k₄ : ℕ) →
    page ≡ start ++ (count ++ (used ++ (tail ++ (higher ++ (gap ++ (entries ++ (under ++ free))))))) →
    length start ≡ 4 → length count ≡ 2 → length used ≡ 2 → length tail ≡ 8 → length counted ≡ 2 → length offset ≡ 2 → length gap ≡ 2 →
    16 + length higher ≡ at → at + (2 + length entries) ≡ to → 2 ≡ k₃ → length under ≡ k₄ →
    put_mid 6 2 (put_mid 4 2 (put_mid to k₄ (put_mid at k₃ page offset) entry) counted) after
    ≡ start ++ (counted ++ (after ++ (tail ++ (higher ++ (offset ++ (entries ++ (entry ++ free)))))))
four_writes page start count used tail higher gap entries under free offset entry counted after at to k₃ k₄ is l₁ l₂ l₃ l₄ l₅ l₆ l₇ at-is to-is e₃ e₄ =
    let w₁ = put_from page (start ++ count ++ used ++ tail ++ higher) gap (entries ++ under ++ free) offset at k₃
    (is ∙ simp append_assoc) (simp length-append (omega arith)) (omega arith) in
    let w₂ = put_from _ (start ++ count ++ used ++ tail ++ higher ++ offset ++ entries) under free entry to k₄
    (w₁ ∙ simp append_assoc) (simp length-append (omega arith)) e₄ in
    let w₃ = put_from _ start count (used ++ tail ++ higher ++ offset ++ entries ++ entry ++ free) counted 4 2
    (w₂ ∙ simp append_assoc) l₁ l₂ in
    let w₄ = put_from _ (start ++ counted) used (tail ++ higher ++ offset ++ entries ++ entry ++ free) after 6 2
    (w₃ ∙ simp append_assoc) (simp length-append (omega arith)) l₃ in
    w₄ ∙ simp append_assoc

-- the six writes of a push, on a page in parts: the entries move over two zeros, the offsets are raised, and then one offset more, the entry, the count and the first place behind are written
pub six_writes :
    (start count used tail places entries zeros under free pair higher offset entry counted after : List ℕ) (at to k₁ k₂ k₃ k₄ : ℕ) →
    length start ≡ 4 → length count ≡ 2 → length used ≡ 2 → length tail ≡ 8 → length counted ≡ 2 → length offset ≡ 2 → length pair ≡ 2 →
    length higher ≡ length places →
    16 + length places ≡ at → at + (2 + length entries) ≡ to →
    length entries + length zeros ≡ k₁ → length places ≡ k₂ → 2 ≡ k₃ → length under ≡ k₄ →
    put_mid 6 2 (put_mid 4 2 (put_mid to k₄ (put_mid at k₃ (put_mid 16 k₂ (put_mid at k₁ (start ++ (count ++ (used ++ (tail ++ (places ++ (entries ++ (zeros ++ (under ++ free)))))))) (pair ++ entries)) higher) offset) entry) counted) after
    ≡ start ++ (counted ++ (after ++ (tail ++ (higher ++ (offset ++ (entries ++ (entry ++ free)))))))
six_writes start count used tail places entries zeros under free pair higher offset entry counted after at to k₁ k₂ k₃ k₄ l₁ l₂ l₃ l₄ l₅ l₆ l₇ l₈ at-is to-is e₁ e₂ e₃ e₄ =
    let w₁ = put_from (start ++ (count ++ (used ++ (tail ++ (places ++ (entries ++ (zeros ++ (under ++ free)))))))) (start ++ count ++ used ++ tail ++ places) (entries ++ zeros) (under ++ free) (pair ++ entries) at k₁
    (simp append_assoc) (simp length-append (omega arith)) (simp length-append (omega arith)) in
    let w₂ = put_from _ (start ++ count ++ used ++ tail) places (pair ++ entries ++ under ++ free) higher 16 k₂
    (w₁ ∙ simp append_assoc) (simp length-append (omega arith)) e₂ in
    four_writes _ start count used tail higher pair entries under free offset entry counted after at to k₃ k₄
    (w₂ ∙ simp append_assoc) l₁ l₂ l₃ l₄ l₅ l₆ l₇ (omega arith) to-is e₃ e₄

-- what stands below a part that was written
pub below_put : (page new : List ℕ) (at size k : ℕ) → 16 + k ≡ at → at ≤ length page → take k (drop 16 (put_mid at size page new)) ≡ take k (drop 16 page)
below_put page new at size k is within =
    sym (drop-take 16 k (put_mid at size page new)) ∙ ap (drop 16) (take-put_mid_below at size page new (16 + k) (omega (arith, is)) within) ∙ drop-take 16 k page

-- a write keeps the length
pub length_put : (page new : List ℕ) (at size : ℕ) → at + size ≤ length page → length new ≡ size → length (put_mid at size page new) ≡ length page
length_put page new at size within same = simp (length-append, length-take, length-drop) (omega arith)
