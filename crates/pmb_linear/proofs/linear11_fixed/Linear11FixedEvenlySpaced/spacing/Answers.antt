use Rattle.std.proofs.Common.{inl}
use Rattle.pmb_linear.proofs.FixedExponent.{rises-linear11_fixed}
use Rattle.pmb_linear.proofs.linear11_fixed.Linear11FixedEvenlySpaced.spacing.Goals as goal

pub returns-clause-in_order : goal.returns-clause-in_order
returns-clause-in_order c = rw (← c.self.view_is) (inl (rises-linear11_fixed c.self.inside.exponent c.self.invariant))
