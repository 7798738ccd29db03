-- The read that landed is the one that was picked.
use Rattle.hv_dev.proofs.UnderWay.{reaps}
use Rattle.hv_dev.proofs.memory.port.MemPortPort.reap.Goals as goal

pub returns-clause-back : goal.returns-clause-back
returns-clause-back g c =
    let held = c.take-held.ensures in reaps _ _ _ _ _ _ held.taken held.room held.submits held.most c.land.ensures.ends
