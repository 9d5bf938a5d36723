use Rattle.std.proofs.Common.{◌≡◌, ◌<◌, ◌%◌, arith}
use Rattle.pmb_smbus.proofs.Fronts.{command_is_small, no_command, no_protocol, whole_front}
use Rattle.pmb_smbus.proofs.events.front_of.Goals as goal

pub returns-in_err-command : goal.returns-in_err-command
returns-in_err-command c = grind (arith, no_command)

pub returns-in_err-protocol : goal.returns-in_err-protocol
returns-in_err-protocol c = grind (arith, no_protocol)

pub returns : goal.returns
returns c =
    let small : c.in_ok-command.command < 256 =
    command_is_small c.args.command.now c.in_ok-command.command c.in_ok-command.ensures in
    let same : c.in_ok-command.command % 256 ≡ c.in_ok-command.command = omega arith in
    whole_front _ _ _ _ _ _ _ _ _ c.in_ok-address.ensures c.in_ok-flags.ensures.value c.in_ok-command.ensures
    c.in_ok-protocol.ensures same
