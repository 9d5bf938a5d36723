use Rattle.std.proofs.Common.{◌≡◌, length, Some}
use Rattle.pmb_words.specs.Numbers.{fitting_from}
use Rattle.pmb_words.proofs.numbers.fitting_decimal.Given as goal

-- the digits so far were read
abbrev pub invariant-loop-left : goal.invariant-loop-left
invariant-loop-left l = fitting_from (Some 0) l.fn.text ≡ fitting_from l.number l.left

abbrev pub decreases-loop-left : goal.decreases-loop-left
decreases-loop-left l = length l.left
