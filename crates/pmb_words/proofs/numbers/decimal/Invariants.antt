use Rattle.std.proofs.Common.{◌≡◌, length}
use Rattle.pmb_words.specs.Numbers.{decimal_from}
use Rattle.pmb_words.proofs.numbers.decimal.Given as goal

-- the digits so far were read
abbrev pub invariant-loop-left : goal.invariant-loop-left
invariant-loop-left l = decimal_from 0 l.fn.text ≡ decimal_from l.number l.left

abbrev pub decreases-loop-left : goal.decreases-loop-left
decreases-loop-left l = length l.left
