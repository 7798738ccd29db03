-- the places of the statements of the phases so far
use Rattle.hv_model.specs.Sessions.{count_before}
use Rattle.hv_world.specs.Turns.{AreTurnsTo}
use Rattle.hv_world.proofs.turns.turns_of.Given as goal

abbrev pub invariant-loop-at : goal.invariant-loop-at
invariant-loop-at l = AreTurnsTo l.script l.name (count_before l.script l.name l.at) l.turns.items
