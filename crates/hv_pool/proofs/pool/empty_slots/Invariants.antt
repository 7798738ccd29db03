use Rattle.std.proofs.Common.{◌≡◌, ◌≤◌, map, vec_capacity}
use Rattle.std.specs.List.{range_with_len}
use Rattle.hv_pool.specs.Made.{empty_slot}
use Rattle.hv_pool.proofs.pool.empty_slots.Given as goal

-- those below `number` are made, and the others have room
abbrev pub invariant-loop-number : goal.invariant-loop-number
invariant-loop-number l = record {
  has_room : l.count ≤ vec_capacity l.slots;
  made : l.slots.items ≡ map empty_slot (range_with_len 0 l.number);
}
