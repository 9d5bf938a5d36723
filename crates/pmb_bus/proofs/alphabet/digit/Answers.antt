use Rattle.std.proofs.Common.{◌<◌, ◌≤◌, get_or, arith}
use Rattle.std.proofs.lemmas.Bool.Decides.{nat_tests}
use Rattle.pmb_bus.specs.declared.alphabet.TheConstants.{CLASSES}
use Rattle.pmb_bus.proofs.Classes.{digit_read, digit_refused}
use Rattle.pmb_bus.proofs.alphabet.digit.Goals as goal

pub returns-then-class-lt16-clause-value : goal.returns-then-class-lt16-clause-value
returns-then-class-lt16-clause-value c =
    let small : get_or CLASSES c.args.byte 0 < 16 = grind (arith, nat_tests) in
    digit_read c.args.byte (omega arith) small

pub returns-else-class-lt16-clause-value : goal.returns-else-class-lt16-clause-value
returns-else-class-lt16-clause-value c =
    let big : 16 ≤ get_or CLASSES c.args.byte 0 = grind (arith, nat_tests) in
    digit_refused c.args.byte (omega arith) big
