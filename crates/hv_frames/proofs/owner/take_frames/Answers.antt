use Rattle.std.proofs.Common.{ap, ap₂, ◌∷◌, [], ◌++◌, ◌∙◌, sym, arith, length}
use Rattle.std.proofs.lemmas.List.FromFn.{map-range_with_len_more, length-map-range_with_len}
use Rattle.hv_frames.specs.Frames.{fresh_frame}
use Rattle.hv_frames.proofs.owner.take_frames.Goals as goal

-- as many frames as numbers were passed, and there is room for all
pub push_reserved-requires : goal.push_reserved-requires
push_reserved-requires c =
    let frames = c.loop-number.frames in
    omega (arith, frames.ok, ap length c.loop-number.invariant.taken, length-map-range_with_len (fresh_frame c.args.mark.now.ptr) 0 c.loop-number.number)

-- the frame that was pushed is the fresh one at `number`
pub loop-number-preserved : goal.loop-number-preserved
loop-number-preserved c =
    let fresh = fresh_frame c.args.mark.now.ptr in
    record {
      has_room = omega (arith, c.push_reserved.ensures.capacity);
      taken = c.push_reserved.ensures.items
          ∙ ap₂ (λ frames frame. frames ++ frame ∷ []) c.loop-number.invariant.taken c.in-Ok.ensures
          ∙ sym (map-range_with_len_more fresh 0 c.loop-number.number c.loop-number.number (omega arith));
    }
