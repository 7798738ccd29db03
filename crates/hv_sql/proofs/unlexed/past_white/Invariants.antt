-- From the first place on and from here on stand the same tokens.
use Rattle.std.proofs.Common.{◌≡◌, ◌≤◌, ◌-◌, length, drop}
use Rattle.hv_model.specs.Lexemes.{tokens_from}
use Rattle.hv_sql.proofs.unlexed.past_white.Given as goal

abbrev pub invariant-loop-at : goal.invariant-loop-at
invariant-loop-at l = record {
  within : l.at ≤ length l.text;
  same : tokens_from l.fn.from 0 (drop l.fn.from l.text) ≡ tokens_from l.at 0 (drop l.at l.text);
}

abbrev pub decreases-loop-at : goal.decreases-loop-at
decreases-loop-at l = length l.text - l.at
