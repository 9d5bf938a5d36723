use Rattle.std.proofs.Common.{◌≡◌, option_copied, option_map}
use Rattle.pmb_trace.specs.Line.{first_loss, last_loss}
use Rattle.pmb_trace.specs.Views.{loss_of}
use Rattle.pmb_trace.specs.machine.Losses.{last_from, size}
use Rattle.pmb_trace.proofs.loss.last_loss.Given as goal

-- the last so far
abbrev pub invariant-loop-left : goal.invariant-loop-left
invariant-loop-left l = last_loss l.line ≡ first_loss (last_from (option_copied l.left)) (option_map loss_of l.last)

abbrev pub decreases-loop-left : goal.decreases-loop-left
decreases-loop-left l = size (option_copied l.left)
