use Rattle.std.proofs.Common.{◌≡◌, ◌≤◌, length}
use Rattle.pmb_saleae.specs.Exponent.{without_zeros}
use Rattle.pmb_saleae.proofs.exponent.without_zeros.Given as goal

-- the digits so far are zeros
abbrev pub invariant-loop-left : goal.invariant-loop-left
invariant-loop-left l = record {
  same : without_zeros l.digits ≡ without_zeros l.left;
  short : length l.left ≤ length l.digits;
}

abbrev pub decreases-loop-left : goal.decreases-loop-left
decreases-loop-left l = length l.left
