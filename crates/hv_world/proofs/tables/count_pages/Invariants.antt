-- the pages of the tables so far
use Rattle.std.proofs.Common.{◌≡◌, ◌*◌, ◌≤◌, take}
use Rattle.std.specs.List.{sum_by}
use Rattle.hv_world.specs.Selecting.{pages_of}
use Rattle.hv_world.proofs.tables.count_pages.Given as goal

abbrev pub invariant-loop-table : goal.invariant-loop-table
invariant-loop-table g l = record {
  counted : l.count ≡ sum_by (λ t. pages_of t.chunks) (take l.table-index l.tables);
  fits : l.count ≤ l.table-index * 4398046511104;
}
