use Rattle.std.proofs.Common.{length, ◌-◌, ◌≡◌, ◌≤◌, drop}
use Rattle.pmb_line.specs.Words.{word_behind, line_words, words_from}
use Rattle.pmb_line.proofs.words.word_at.Given as goal

-- the words so far begin before `from`
abbrev pub invariant-loop-at : goal.invariant-loop-at
invariant-loop-at l = record {
  within : l.at ≤ length l.text;
  rest : word_behind l.from (line_words l.fn.line) ≡ word_behind l.from (words_from l.at (drop l.at l.text));
}

abbrev pub decreases-loop-at : goal.decreases-loop-at
decreases-loop-at l = length l.text - l.at
