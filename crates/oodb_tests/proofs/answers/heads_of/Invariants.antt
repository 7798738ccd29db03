use Rattle.std.proofs.Common.{◌≡◌, length}
use Rattle.oodb_tests.proofs.answers.heads_of.Given as goal

-- as many heads as places so far
abbrev pub invariant-loop-place : goal.invariant-loop-place
invariant-loop-place l = length l.heads ≡ l.place-index
