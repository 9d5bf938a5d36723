use Rattle.std.proofs.Common.{sym, arith}
use Rattle.pmb_decimal.proofs.HalfEven.{half_even-down, half_even-up, half_even-tie}
use Rattle.pmb_decimal.proofs.rounding.rounded.Goals as goal

pub returns-then-rest-lacking-clause-value : goal.returns-then-rest-lacking-clause-value
returns-then-rest-lacking-clause-value c = sym (half_even-down c.args.dividend c.args.divisor (omega arith))

pub returns-then-rest-lacking-2-clause-value : goal.returns-then-rest-lacking-2-clause-value
returns-then-rest-lacking-2-clause-value c = sym (half_even-up c.args.dividend c.args.divisor (omega arith))

pub returns-else-rest-lacking-2-clause-value : goal.returns-else-rest-lacking-2-clause-value
returns-else-rest-lacking-2-clause-value c = sym (half_even-tie c.args.dividend c.args.divisor (omega arith))
