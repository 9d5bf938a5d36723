use Rattle.std.proofs.Common.{◌≡◌, length}
use Rattle.pmb_saleae.specs.Row.{lost_front}
use Rattle.pmb_saleae.proofs.bus.lost_front.Given as goal

-- it is no longer end
abbrev pub invariant-loop-left : goal.invariant-loop-left
invariant-loop-left l = lost_front l.whole l.name ≡ lost_front l.left l.name

abbrev pub decreases-loop-left : goal.decreases-loop-left
decreases-loop-left l = length l.left
