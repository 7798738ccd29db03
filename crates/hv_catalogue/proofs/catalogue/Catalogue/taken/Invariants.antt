use Rattle.std.proofs.Common.{◌≡◌, take}
use Rattle.hv_catalogue.specs.Holding.{heads_named, held_named}
use Rattle.hv_catalogue.proofs.catalogue.Catalogue.taken.Given as goal

abbrev pub invariant-loop-name : goal.invariant-loop-name
invariant-loop-name g l = (l.heads ≡ heads_named l.self.database (take l.name-index l.names)) × (l.tables ≡ held_named l.self.database (take l.name-index l.names))
