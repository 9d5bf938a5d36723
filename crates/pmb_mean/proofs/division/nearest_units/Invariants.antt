use Rattle.pmb_mean.proofs.LongDivision.{IsDivided}
use Rattle.pmb_mean.proofs.division.nearest_units.Given as goal

abbrev pub invariant-digits : goal.invariant-digits
invariant-digits l = IsDivided l.numerator l.denominator l.place l.units l.rest
