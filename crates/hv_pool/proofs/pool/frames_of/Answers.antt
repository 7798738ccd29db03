use Rattle.std.proofs.Common.{◌++◌, ◌∷◌, [], List, sym, subst, arith, IsPermutation, Some}
use Rattle.std.specs.Prelude.{IsSome}
use Rattle.std.proofs.lemmas.List.Elements.{All-pop}
use Rattle.hv_frames.specs.Frames.{Framed}
use Rattle.hv_pool.specs.declared.slot.Slot.{Slot}
use Rattle.hv_pool.specs.Made.{here}
use Rattle.hv_pool.proofs.Made.{goes_out}
use Rattle.hv_pool.proofs.pool.frames_of.Goals as goal

pub loop-slot-preserved : goal.loop-slot-preserved
loop-slot-preserved c =
    let all : List Framed = here c.args.slots.items in
    let before : IsPermutation all (c.loop-slot.room.items ++ here (c.pop.new.self.items ++ c.in-Some.slot ∷ [])) = subst (λ (l : List Slot). IsPermutation all (c.loop-slot.room.items ++ here l)) c.in-Some.ensures.items c.loop-slot.invariant.frames in
    record {
      home = (All-pop (λ (s : Slot). IsSome s.frame) c.loop-slot.slots.items c.pop.new.self.items (Some c.in-Some.slot) c.in-Some.ensures.items c.loop-slot.invariant.home).0;
      wide = omega (arith, c.loop-slot.invariant.wide, c.pop.ensures.capacity, c.in-Some.ensures.len, c.push_reserved.ensures.len, c.push_reserved.ensures.capacity);
      frames = subst (λ (l : List Framed). IsPermutation all (l ++ here c.pop.new.self.items)) (sym c.push_reserved.ensures.items)
          (goes_out all c.loop-slot.room.items c.pop.new.self.items c.in-Some.slot c.frame_of.result c.frame_of.ensures before);
    }
