use Rattle.std.proofs.Common.{◌≡◌, ◌-◌, length, arith, ◌∙◌}
use Rattle.std.proofs.lemmas.List.{take_all}
use Rattle.hv_heap.proofs.Moving.{written_from, begun_same}
use Rattle.hv_heap.proofs.writer.begin_top.Goals as goal

pub returns : goal.returns
returns c =
    let long : length c.begin.new.page ≡ 4096 = omega (arith, c.begin.auto.page, c.requires) in
    begun_same (written_from 4082 (length c.args.room.now - 4082) c.args.room.now c.begin.new.page (omega (arith, c.requires)) (omega (arith, long)) ∙ take_all 4096 c.begin.new.page (omega (arith, long))) c.begin.ensures
