use Rattle.std.proofs.Common.{◌<◌, ◌≤◌, get_or, arith}
use Rattle.std.proofs.lemmas.Bool.Decides.{nat_tests}
use Rattle.pmb_line.specs.declared.token.TheConstants.{DIGITS}
use Rattle.pmb_line.proofs.Digits.{digit_read, digit_refused}
use Rattle.pmb_line.proofs.token.digit.Goals as goal

pub returns-then-value-lt16-clause-value : goal.returns-then-value-lt16-clause-value
returns-then-value-lt16-clause-value c =
    let small : get_or DIGITS c.args.byte 0 < 16 = grind (arith, nat_tests) in
    digit_read c.args.byte (omega arith) small

pub returns-else-value-lt16-clause-value : goal.returns-else-value-lt16-clause-value
returns-else-value-lt16-clause-value c =
    let big : 16 ≤ get_or DIGITS c.args.byte 0 = grind (arith, nat_tests) in
    digit_refused c.args.byte (omega arith) big
