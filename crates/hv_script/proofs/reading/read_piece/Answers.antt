-- A read of 0 bytes adds nothing and tells the end.
use Rattle.hv_script.proofs.Source.{read_last}
use Rattle.hv_script.proofs.reading.read_piece.Goals as goal

pub returns-clause-end : goal.returns-clause-end
returns-clause-end g c = λ before known z.
    let items = c.in_ok-extend_from_slice.ensures.items in
    let front = c.split_at.ensures.front in
    read_last before (g.S.Source.left c.args.source.now) (g.S.Source.left c.read.new.self) c.args.all.now.items _ c.read.new.piece known (rw z at c.in-Ok.ensures.gives) (c.in-Ok.ensures.end z c.requires) (rw (front, z) at items)
