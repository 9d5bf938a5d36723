use Rattle.std.proofs.Common.{arith}
use Rattle.pmb_mean.proofs.LongDivision.{rounds_down, rounds_tie, rounds_up}
use Rattle.pmb_mean.proofs.division.rounded.Goals as goal

pub returns-then-rest-lacking : goal.returns-then-rest-lacking
returns-then-rest-lacking c = rounds_down c.args.quotient c.args.rest c.args.divisor (omega arith) (omega arith)

pub returns-then-rest-lacking-2 : goal.returns-then-rest-lacking-2
returns-then-rest-lacking-2 c = rounds_up c.args.quotient c.args.rest c.args.divisor (omega arith) (omega arith)

pub returns-else-rest-lacking-2 : goal.returns-else-rest-lacking-2
returns-else-rest-lacking-2 c = rounds_tie c.args.quotient c.args.rest c.args.divisor (omega arith) (omega arith)
