use Rattle.std.proofs.Common.{◌≡◌, ℕ, ◌<◌, ◌≤◌, take, get_or, true, IfSome, IfNone}
use Rattle.std.specs.List.{count_by}
use Rattle.hv_pool.specs.declared.slot.Slot.{Slot}
use Rattle.hv_pool.specs.Slots.{is_open}
use Rattle.hv_pool.proofs.order.walk_open.Given as goal

abbrev pub invariant-loop-n : goal.invariant-loop-n
invariant-loop-n l = record {
  none : IfNone l.best (count_by is_open (take l.n l.slots) ≡ 0);
  some : IfSome l.best (λ b. (b < l.n) × ((d : Slot) → is_open (get_or l.slots b d) ≡ true) × ((k : ℕ) (d e : Slot) → k < l.n → is_open (get_or l.slots k d) ≡ true → (get_or l.slots b e).came ≤ (get_or l.slots k d).came));
}
