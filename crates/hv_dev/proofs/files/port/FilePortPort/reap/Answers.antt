-- The read that came back is the first one.
use Rattle.hv_dev.proofs.UnderWay.{reaps}
use Rattle.hv_dev.proofs.files.port.FilePortPort.reap.Goals as goal

pub returns-clause-back : goal.returns-clause-back
returns-clause-back g c =
    let held = c.take-held.ensures in reaps _ _ _ _ _ _ held.taken held.room held.submits held.most c.fetch.ensures.ends
