-- Which session takes the next step, by the word `order`. This project's own; the generator is PCG32 (O'Neill, XSH RR 64/32).
use Rattle.std.specs.Prelude.{ℕ, ◌-◌, length}
use Rattle.rand_core.specs.Pcg32Seed.{pcg32_seed}
use Rattle.rand_pcg.specs.Pcg.{pcg32, pcg32_of_seed}
use Rattle.hv_dev.specs.declared.device.Order.{Order}
use Rattle.hv_dev.specs.declared.device.Order.TheVariants.{Fifo, Lifo, Seed}
use Rattle.hv_world.specs.World.{WorldSeen, ready_places, next_round}
use Rattle.oodb.specs.declared.picks.Picks.{Picks}
use Rattle.oodb.specs.declared.picks.Picks.TheVariants.{Round, Last, Drawn}

-- what picks by an order
abbrev pub picks_of : Order → Picks
picks_of Fifo = Round
picks_of Lifo = Last
picks_of (Seed seed) = Drawn (pcg32_of_seed (pcg32_seed 16 seed))

-- the next pick, as a place among the sessions that can take a step, modulo how many there are; and what picks from there on
abbrev pub picked : {File : Type 0} → Picks → WorldSeen File → ℕ × Picks
picked Round w = (next_round w w.last, Round)
picked Last w = (length (ready_places w) - 1, Last)
picked (Drawn words) w = ((pcg32 words).0, Drawn (pcg32 words).1)
