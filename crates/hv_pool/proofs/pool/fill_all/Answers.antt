use Rattle.std.proofs.Common.{◌++◌, ◌∷◌, [], List, refl, subst, ◌∙◌}
use Rattle.hv_frames.specs.Frames.{Framed}
use Rattle.hv_pool.proofs.Made.{Filling, fill_none, fill_more, place_fits, place_empty}
use Rattle.hv_pool.proofs.pool.fill_all.Goals as goal

pub loop-frame-init : goal.loop-frame-init
loop-frame-init c = record { filling = fill_none c.args.frames.now.items c.args.slots.now c.requires.slots; room = refl }

pub bounds-slots-n : goal.bounds-slots-n
bounds-slots-n c =
    let f : Filling c.args.frames.now.items (c.pop.new.self.items ++ c.in-Some.frame ∷ []) c.loop-frame.slots = subst (λ (l : List Framed). Filling c.args.frames.now.items l c.loop-frame.slots) c.in-Some.ensures.items c.loop-frame.invariant.filling in
    place_fits _ c.pop.new.self.items c.loop-frame.slots c.in-Some.frame c.number-n.result c.requires.all f.numbers f.among c.number-n.ensures

pub fill-requires : goal.fill-requires
fill-requires c =
    let f : Filling c.args.frames.now.items (c.pop.new.self.items ++ c.in-Some.frame ∷ []) c.loop-frame.slots = subst (λ (l : List Framed). Filling c.args.frames.now.items l c.loop-frame.slots) c.in-Some.ensures.items c.loop-frame.invariant.filling in
    place_empty _ c.pop.new.self.items c.loop-frame.slots c.in-Some.frame c.number-n.result c.index-slots-n.result c.requires.all f.numbers f.fresh f.among c.number-n.ensures

pub loop-frame-preserved : goal.loop-frame-preserved
loop-frame-preserved c =
    let f : Filling c.args.frames.now.items (c.pop.new.self.items ++ c.in-Some.frame ∷ []) c.loop-frame.slots = subst (λ (l : List Framed). Filling c.args.frames.now.items l c.loop-frame.slots) c.in-Some.ensures.items c.loop-frame.invariant.filling in
    record {
      filling = fill_more _ c.pop.new.self.items c.loop-frame.slots c.in-Some.frame c.number-n.result c.index-slots-n.result c.fill.new.slot c.requires.all f c.number-n.ensures c.fill.ensures;
      room = c.pop.ensures.capacity ∙ c.loop-frame.invariant.room;
    }
