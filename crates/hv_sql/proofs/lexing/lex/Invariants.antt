-- The tokens so far and those of the rest are the tokens of the text.
use Rattle.std.proofs.Common.{◌≡◌, ◌≤◌, ◌-◌, ◌++◌, length, drop}
use Rattle.hv_model.specs.Lexemes.{tokens_from, tokens_of}
use Rattle.hv_sql.proofs.lexing.lex.Given as goal

abbrev pub invariant-loop-at : goal.invariant-loop-at
invariant-loop-at l = record {
  within : l.at ≤ length l.text;
  same : l.tokens.items ++ tokens_from l.at 0 (drop l.at l.text) ≡ tokens_of l.text;
}

abbrev pub decreases-loop-at : goal.decreases-loop-at
decreases-loop-at l = length l.text - l.at
