use Rattle.std.proofs.Common.{◌≡◌, length}
use Rattle.pmb_words.specs.Left.{pieces_left}
use Rattle.pmb_smbus.specs.Events.{same_words}
use Rattle.pmb_smbus.proofs.events.are_same.Given as goal

-- those so far are the same
abbrev pub invariant-loop-word : goal.invariant-loop-word
invariant-loop-word l =
    same_words (pieces_left l.some) (pieces_left l.others) ≡ same_words (pieces_left l.left) (pieces_left l.rest)

abbrev pub decreases-loop-word : goal.decreases-loop-word
decreases-loop-word l = length (pieces_left l.left)
