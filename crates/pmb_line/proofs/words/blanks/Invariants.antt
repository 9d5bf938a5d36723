use Rattle.std.proofs.Common.{length, ◌-◌, ◌≡◌, ℕ, ◌+◌, ◌≤◌, drop}
use Rattle.pmb_line.specs.Words.{words_from}
use Rattle.pmb_line.proofs.words.blanks.Given as goal

-- the blanks so far are passed over
abbrev pub invariant-loop-n : goal.invariant-loop-n
invariant-loop-n l = record {
  within : l.n ≤ length l.text;
  passed : (at : ℕ) → words_from at l.text ≡ words_from (at + l.n) (drop l.n l.text);
}

abbrev pub decreases-loop-n : goal.decreases-loop-n
decreases-loop-n l = length l.text - l.n
