use Rattle.std.proofs.Common.{◌≡◌, ◌+◌, ◌-◌, length, arith}
use Rattle.hv_heap.proofs.Moving.{behind_two, written_from, begun_same}
use Rattle.hv_heap.proofs.writer.put.Goals as goal

pub push_down-requires-clause-begun : goal.push_down-requires-clause-begun
push_down-requires-clause-begun c =
    let b = c.requires.begun in
    let w = c.requires.within in
    let some = w.0 in
    record { kind = b.kind; number = b.number; entries = b.entries; begun = begun_same (behind_two c.args.from (c.args.from + 4096 - (c.args.from - 2)) c.args.room.now some (omega (arith, some))) b.begun }

pub returns-clause-pushed : goal.returns-clause-pushed
returns-clause-pushed c kind number entries begun e =
    let w = c.requires.within in
    let some = w.0 in
    let size = c.args.from + 4096 - (c.args.from - 2) in
    let long : length c.push_down.new.window ≡ 4098 = omega (arith, c.push_down.auto.window, w.0, w.1, w.2) in
    begun_same (written_from (c.args.from - 2) size c.args.room.now c.push_down.new.window (omega (arith, w.1, w.2)) (omega (arith, long)))
    (c.push_down.ensures.pushed kind number entries (begun_same (behind_two c.args.from size c.args.room.now some (omega (arith, some))) begun) e)

pub returns-clause-full : goal.returns-clause-full
returns-clause-full c kind number entries begun e =
    let w = c.requires.within in
    let some = w.0 in
    let size = c.args.from + 4096 - (c.args.from - 2) in
    c.push_down.ensures.full kind number entries (begun_same (behind_two c.args.from size c.args.room.now some (omega (arith, some))) begun) e
