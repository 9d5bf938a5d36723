use Rattle.std.proofs.Common.{◌≡◌, false, length}
use Rattle.pmb_saleae.specs.Time.{is_fraction_and_zone}
use Rattle.pmb_saleae.proofs.time.ends_fraction.Given as goal

-- the digits so far were passed
abbrev pub invariant-loop-left : goal.invariant-loop-left
invariant-loop-left l = is_fraction_and_zone false l.fn.text ≡ is_fraction_and_zone l.some l.left

abbrev pub decreases-loop-left : goal.decreases-loop-left
decreases-loop-left l = length l.left
