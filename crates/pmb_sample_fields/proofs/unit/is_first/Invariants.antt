use Rattle.std.proofs.Common.{◌≡◌, length}
use Rattle.std.specs.Str.{bytes_eq}
use Rattle.pmb_sample_fields.specs.Units.{letters_at}
use Rattle.pmb_sample_fields.proofs.unit.is_first.Given as goal

-- the letters so far are the same
abbrev pub invariant-loop-word_left : goal.invariant-loop-word_left
invariant-loop-word_left l = bytes_eq (letters_at l.fn.text) l.fn.word ≡ bytes_eq (letters_at l.left) l.word_left

abbrev pub decreases-loop-word_left : goal.decreases-loop-word_left
decreases-loop-word_left l = length l.word_left
