use Rattle.std.proofs.Common.{◌≡◌, ◌≤◌, length}
use Rattle.pmb_sample_fields.specs.Scaled.{most}
use Rattle.pmb_sample_fields.specs.machine.Digits.{all_taken}
use Rattle.pmb_sample_fields.proofs.scaled.take_digits.Given as goal

-- the digits so far were taken
abbrev pub invariant-loop-left : goal.invariant-loop-left
invariant-loop-left l = record {
  same : all_taken most l.fn.taken l.fn.digits ≡ all_taken most l.now l.left;
  small : l.now.whole ≤ most;
}

abbrev pub decreases-loop-left : goal.decreases-loop-left
decreases-loop-left l = length l.left
