-- The words so far chose what they say, and each gave a key.
use Rattle.std.proofs.Common.{◌≡◌, ◌+◌, ◌≤◌, drop}
use Rattle.hv_script.specs.Words.{unchosen, choose}
use Rattle.hv_script.proofs.Choosing.{keys}
use Rattle.hv_script.proofs.words.read_others.Given as goal

abbrev pub invariant-loop-word : goal.invariant-loop-word
invariant-loop-word l = record {
  same : choose 2 unchosen l.words ≡ choose l.number l.chosen (drop l.word-index l.words);
  few : l.number ≤ 2 + keys l.chosen;
}
