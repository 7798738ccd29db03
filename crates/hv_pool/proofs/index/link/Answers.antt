use Rattle.std.proofs.Common.{refl}
use Rattle.hv_pool.proofs.Indexed.{links_in}
use Rattle.hv_pool.proofs.index.link.Goals as goal

pub returns-clause-indexed : goal.returns-clause-indexed
returns-clause-indexed c = λ v is. links_in c.args.links.now _ c.args.slots.now c.args.bucket c.args.place v c.requires.indexed c.requires.within.1 c.requires.within.0 refl is
