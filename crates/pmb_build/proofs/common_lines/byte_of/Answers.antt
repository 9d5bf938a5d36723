use Rattle.std.proofs.Common.{arith}
use Rattle.pmb_build.proofs.CommonLines.{of_digits}
use Rattle.pmb_build.proofs.common_lines.byte_of.Goals as goal

pub returns : goal.returns
returns c =
    let first = c.in_ok-sixteens.ensures in
    let second = c.in_ok-ones.ensures in (
      omega (arith, first.0, second.0),
      of_digits c.args.high c.args.low c.in_ok-sixteens.sixteens c.in_ok-ones.ones
          first.0 second.0 first.1 second.1,
    )
