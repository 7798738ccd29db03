use Rattle.std.proofs.Common.{ap, ap₂, ◌∷◌, [], ◌++◌, ◌∙◌, sym, arith, length}
use Rattle.std.proofs.lemmas.List.FromFn.{map-range_with_len_more, length-map-range_with_len}
use Rattle.hv_pool.specs.Made.{empty_slot}
use Rattle.hv_pool.proofs.pool.empty_slots.Goals as goal

-- as many places as numbers were passed, and there is room for all
pub push_reserved-requires : goal.push_reserved-requires
push_reserved-requires c = omega (arith, c.loop-number.slots.ok.0, ap length c.loop-number.invariant.made, length-map-range_with_len empty_slot 0 c.loop-number.number, c.loop-number-test.true, c.loop-number.invariant.has_room)

-- the place that was pushed is the one of `number`
pub loop-number-preserved : goal.loop-number-preserved
loop-number-preserved c = record {
  has_room = omega (arith, c.push_reserved.ensures.capacity, c.loop-number.invariant.has_room);
  made = c.push_reserved.ensures.items
      ∙ ap₂ (λ slots slot. slots ++ slot ∷ []) c.loop-number.invariant.made c.empty_slot.ensures
      ∙ sym (map-range_with_len_more empty_slot 0 c.loop-number.number c.loop-number.number (omega arith));
}
