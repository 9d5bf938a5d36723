use Rattle.std.proofs.Common.{◌≡◌, ℕ, List, length}
use Rattle.pmb_line.specs.Left.{end, words_left}
use Rattle.pmb_line.specs.Words.{Word}
use Rattle.pmb_request.specs.Spelling.{to_call}
use Rattle.pmb_request.specs.machine.Reading.{behind, StandsAt}
use Rattle.pmb_request.proofs.command_words.take_bytes.Given as goal

-- where a reader stands after the bytes so far
abbrev pub invariant-loop-word : goal.invariant-loop-word
invariant-loop-word l = record {
  stands : (all : List Word) (a c : ℕ) → StandsAt all (behind a c (to_call l.fn.bytes.items)) (words_left l.fn.words)
      → StandsAt all (behind a c (to_call l.bytes.items)) (words_left l.words);
  ahead : words_left l.ahead ≡ words_left l.words;
  ahead_end : end l.ahead ≡ end l.fn.words;
  ends : end l.words ≡ end l.fn.words;
}

abbrev pub decreases-loop-word : goal.decreases-loop-word
decreases-loop-word l = length (words_left l.ahead)
