use Rattle.std.proofs.Common.{◌≡◌}
use Rattle.pmb_quantity.specs.Fraction.{gcd}
use Rattle.pmb_quantity.proofs.quantity.gcd_of_words.Given as goal

abbrev pub invariant-loop-b : goal.invariant-loop-b
invariant-loop-b l = gcd l.a l.b ≡ gcd l.fn.a l.fn.b

abbrev pub decreases-loop-b : goal.decreases-loop-b
decreases-loop-b l = l.b
