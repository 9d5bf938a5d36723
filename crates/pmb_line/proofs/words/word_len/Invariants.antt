use Rattle.std.proofs.Common.{length, ◌-◌, ◌≡◌, ℕ, ◌<◌, ◌≤◌, false, slice_index}
use Rattle.pmb_line.specs.machine.Reading.{ends_line_word}
use Rattle.pmb_line.proofs.words.word_len.Given as goal

-- the bytes so far are those of a word
abbrev pub invariant-loop-n : goal.invariant-loop-n
invariant-loop-n l = record {
  within : l.n ≤ length l.text;
  each : (i : ℕ) → i < l.n → ends_line_word (slice_index l.text i) ≡ false;
}

abbrev pub decreases-loop-n : goal.decreases-loop-n
decreases-loop-n l = length l.text - l.n
