use Rattle.std.proofs.Common.{◌≡◌, length, sym, subst}
use Rattle.std.specs.List.{count_by}
use Rattle.hv_frames.specs.Frames.{AreAll}
use Rattle.hv_pool.specs.Slots.{Pooled, is_gone}
use Rattle.hv_pool.proofs.Made.{ends_all}
use Rattle.hv_pool.proofs.pool.Pool.end.Goals as goal

pub returns-clause-all : goal.returns-clause-all
returns-clause-all c =
    subst (λ (p : Pooled). AreAll (record { name = p.owner; count = length p.slots }) c.frames_of.result.items) c.self.view_is
    (ends_all _ c.self.inside.slots.items c.self.inside.came c.self.inside.openings c.frames_of.result.items c.self.invariant.0 (subst (λ (p : Pooled). count_by is_gone p.slots ≡ 0) (sym c.self.view_is) c.requires) c.frames_of.ensures)
