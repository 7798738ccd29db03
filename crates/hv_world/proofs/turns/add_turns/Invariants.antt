-- the places of the statements so far
use Rattle.std.proofs.Common.{◌≡◌, ◌+◌, Some, count_by, take}
use Rattle.std.specs.List.{slice_get}
use Rattle.hv_row.specs.Schema.{same_name}
use Rattle.hv_model.specs.declared.script.Script.{Script}
use Rattle.hv_model.specs.Sessions.{count_before}
use Rattle.hv_world.specs.Turns.{AreTurnsTo}
use Rattle.hv_world.proofs.turns.add_turns.Given as goal

abbrev pub invariant-loop-place : goal.invariant-loop-place
invariant-loop-place l =
    (s : Script) → slice_get s.phases l.at ≡ Some l.phase → AreTurnsTo s l.name (count_before s l.name l.at) l.initial.turns.items
    → AreTurnsTo s l.name (count_before s l.name l.at + count_by (λ y. same_name y.session l.name) (take l.place l.phase)) l.turns.items
