use Rattle.std.proofs.Common.{◌≡◌, ◌≤◌}
use Rattle.pmb_sample_fields.specs.Scaled.{most}
use Rattle.pmb_sample_fields.specs.machine.Digits.{grown}
use Rattle.pmb_sample_fields.proofs.scaled.grow.Given as goal

-- the zeros so far are behind it
abbrev pub invariant-loop-left : goal.invariant-loop-left
invariant-loop-left l = record {
  same : grown most l.fn.whole l.fn.zeros ≡ grown most l.now l.left;
  small : l.now ≤ most;
}

abbrev pub decreases-loop-left : goal.decreases-loop-left
decreases-loop-left l = l.left
