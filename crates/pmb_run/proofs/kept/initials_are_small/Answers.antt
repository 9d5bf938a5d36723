use Rattle.std.proofs.Common.{arith}
use Rattle.std.specs.Prelude.{IfSome}
use Rattle.std.specs.Option.{option_and_then}
use Rattle.pmb_command.specs.Parts.{command_with, initial_on}
use Rattle.pmb_command.specs.Wire.{AreByteValues}
use Rattle.pmb_run.proofs.KeptParts.{one_number_more}
use Rattle.pmb_run.proofs.kept.initials_are_small.Goals as goal

pub loop-page-preserved : goal.loop-page-preserved
loop-page-preserved c =
    one_number_more (λ page. IfSome
    (option_and_then (λ x. initial_on page x.initial) (command_with c.args.code c.args.device.now.commands))
    AreByteValues) c.loop-page.page c.loop-page.invariant c.initial_is_small.ensures

pub returns : goal.returns
returns c = λ page small. c.loop-page.invariant page (omega (arith, small, c.loop-page-test.false))
