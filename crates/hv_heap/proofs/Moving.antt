-- A page at a place of a longer list.
use Rattle.std.proofs.Common.{◌≡◌, ℕ, ◌+◌, ◌-◌, ◌≤◌, List, ◌++◌, length, take, drop, sym, ap, subst, ◌∙◌, arith}
use Rattle.std.proofs.lemmas.List.{drop-drop, drop-take, drop_at, take-append-le, length-take-le}
use borrow.Rule.Slice.PartMut.{put_mid}
use Rattle.hv_page.specs.Layout.{IsBegun}
use Rattle.hv_heap.specs.Writer.{page_at}

-- the page with the 2 bytes before it
pub behind_two : (from size : ℕ) (room : List ℕ) → 2 ≤ from → size ≡ 2 + 4096 → drop 2 (take size (drop (from - 2) room)) ≡ page_at from room
behind_two from size room some size-is =
    let there : (from - 2) + 2 ≡ from = omega arith in
    ap (λ (n : ℕ). drop 2 (take n (drop (from - 2) room))) size-is
    ∙ drop-take 2 4096 (drop (from - 2) room)
    ∙ ap (take 4096) (drop-drop 2 (from - 2) room)
    ∙ ap (λ (n : ℕ). take 4096 (drop n room)) there

-- a part that was written at a place begins there
pub written_from : (at size : ℕ) (room new : List ℕ) → at ≤ length room → 4096 ≤ length new → page_at at (put_mid at size room new) ≡ take 4096 new
written_from at size room new within long =
    let back = drop size (drop at room) in
    ap (take 4096) (drop_at (take at room) (new ++ back) at (length-take-le at room within)) ∙ take-append-le 4096 new back long

pub begun_same : {kind number : ℕ} {page other : List ℕ} {entries : List (List ℕ)} → other ≡ page → IsBegun kind number page entries → IsBegun kind number other entries
begun_same {kind} {number} {page} {other} {entries} same begun = subst (λ (p : List ℕ). IsBegun kind number p entries) (sym same) begun
