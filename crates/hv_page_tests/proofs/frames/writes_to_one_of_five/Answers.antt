use Rattle.std.proofs.Common.{◌≡◌, length, length-set, ap, ◌∙◌, arith}
use Rattle.std.proofs.lemmas.List.FromFn.{length-map-range_with_len}
use Rattle.std.proofs.lemmas.List.Sorted.{IsPermutation-swap, length_permutation}
use Rattle.hv_frames.specs.Frames.{AreAll, fresh_frame}
use Rattle.hv_frames.proofs.Frames.{AreAll-fresh, AreAll-set, AreAll-permutation}
use Rattle.hv_page_tests.proofs.frames.writes_to_one_of_five.Goals as goal

-- two frames were written to, and all were put in another order
pub end-requires : goal.end-requires
end-requires g c =
    let owned = c.in_ok-owner.owner in
    let start = c.in_ok-owner.frames.items in
    let long : length start ≡ 5 = ap length c.in_ok-owner.ensures.frames ∙ length-map-range_with_len (fresh_frame owned.name) 0 5 in
    let made : AreAll owned start = AreAll-fresh owned 5 start c.in_ok-owner.ensures.count c.in_ok-owner.ensures.frames in
    let put : AreAll owned _ = AreAll-set owned start 2 c.index_mut.result.now c.put.new.frame (omega arith) c.index_mut.ensures.value (ap (λ f. f.owner) c.put.ensures) (ap (λ f. f.number) c.put.ensures) made in
    let filled : AreAll owned _ = AreAll-set owned _ 4 c.index_mut-2.result.now c.fill.new.frame (simp length-set (omega arith)) c.index_mut-2.ensures.value (ap (λ f. f.owner) c.fill.ensures) (ap (λ f. f.number) c.fill.ensures) put in
    let turned = AreAll-permutation owned _ _ c.reverse.ensures.permutation filled in
    let still : length c.reverse.new.self.items ≡ 5 = length_permutation _ _ c.reverse.ensures.permutation ∙ simp length-set long in
    AreAll-permutation owned _ _ (IsPermutation-swap _ _ 1 2 (omega arith) (omega arith) c.swap.ensures.items) turned
