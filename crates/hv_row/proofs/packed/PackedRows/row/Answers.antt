use Rattle.std.proofs.Common.{rules, ◌≡◌, length, get_or, arith}
use Rattle.hv_row.specs.Packed.{start_of}
use Rattle.hv_row.proofs.Cutting.{count_rows, found_row, row_here}
use Rattle.hv_row.proofs.packed.PackedRows.row.Goals as goal

pub start_of-requires : goal.start_of-requires
start_of-requires c =
    let ends : length c.as_slice-ends.result.now ≡ length c.self.inside.ends.items = search rules in
    omega (arith, ends, c.requires, count_rows _ _ _ _ c.self.view_is)

pub end_of-requires : goal.end_of-requires
end_of-requires c =
    let ends : length c.as_slice-ends.result.now ≡ length c.self.inside.ends.items = search rules in
    omega (arith, ends, c.requires, count_rows _ _ _ _ c.self.view_is)

pub part-requires-clause-order : goal.part-requires-clause-order
part-requires-clause-order c =
    let found = found_row c.self.inside.schema c.self.inside.bytes.items c.self.inside.ends.items c.args.self.now c.args.place c.self.invariant c.self.view_is c.requires in
    let starts : c.start_of.result ≡ start_of 0 c.self.inside.ends.items c.args.place = search rules in
    let stops : c.end_of.result ≡ get_or c.self.inside.ends.items c.args.place 0 = search rules in
    omega (arith, found.starts, starts, stops)

pub part-requires-clause-within : goal.part-requires-clause-within
part-requires-clause-within c =
    let found = found_row c.self.inside.schema c.self.inside.bytes.items c.self.inside.ends.items c.args.self.now c.args.place c.self.invariant c.self.view_is c.requires in
    let stops : c.end_of.result ≡ get_or c.self.inside.ends.items c.args.place 0 = search rules in
    let whole : length c.as_slice.result.now ≡ length c.self.inside.bytes.items = search rules in
    omega (arith, found.stops, stops, whole)

pub returns-clause-same : goal.returns-clause-same
returns-clause-same c = (row_here c.self.inside.schema c.self.inside.bytes.items c.self.inside.ends.items c.args.self.now c.args.place c.part.result.now c.self.invariant c.self.view_is c.requires (search rules)).same

pub returns-clause-fits : goal.returns-clause-fits
returns-clause-fits c = (row_here c.self.inside.schema c.self.inside.bytes.items c.self.inside.ends.items c.args.self.now c.args.place c.part.result.now c.self.invariant c.self.view_is c.requires (search rules)).fits

pub returns-clause-spelling : goal.returns-clause-spelling
returns-clause-spelling c = (row_here c.self.inside.schema c.self.inside.bytes.items c.self.inside.ends.items c.args.self.now c.args.place c.part.result.now c.self.invariant c.self.view_is c.requires (search rules)).spelling

pub returns-clause-spelled : goal.returns-clause-spelled
returns-clause-spelled c = (row_here c.self.inside.schema c.self.inside.bytes.items c.self.inside.ends.items c.args.self.now c.args.place c.part.result.now c.self.invariant c.self.view_is c.requires (search rules)).spelled
