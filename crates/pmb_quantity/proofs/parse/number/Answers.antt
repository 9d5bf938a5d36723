use Rattle.std.proofs.Common.{arith}
use Rattle.pmb_quantity.proofs.ReadingLemmas.{few_digits}
use Rattle.pmb_quantity.proofs.parse.number.Goals as goal

pub digits_after-requires-clause-fits : goal.digits_after-requires-clause-fits
digits_after-requires-clause-fits c = omega (arith, few_digits 18 c.args.digits.now c.requires.digits (omega arith))
