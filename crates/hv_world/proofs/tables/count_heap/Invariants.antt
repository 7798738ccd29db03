-- the pages of the chunks so far
use Rattle.std.proofs.Common.{◌≡◌, ◌*◌, ◌≤◌, take}
use Rattle.hv_world.specs.Selecting.{pages_of}
use Rattle.hv_world.proofs.tables.count_heap.Given as goal

abbrev pub invariant-loop-held : goal.invariant-loop-held
invariant-loop-held g l = record {
  counted : l.count ≡ pages_of (take l.held-index l.chunks);
  fits : l.count ≤ l.held-index * 4294967296;
}
