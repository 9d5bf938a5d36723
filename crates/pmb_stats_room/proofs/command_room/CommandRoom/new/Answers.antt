use Rattle.std.proofs.Common.{Option, subst}
use Rattle.std.proofs.lemmas.Result.{IfOk-weaker}
use Rattle.pmb_command.specs.Parts.{CommandParts}
use Rattle.pmb_stats_room.specs.machine.Beginning.{BeginsCommand}
use Rattle.pmb_stats_room.proofs.Beginnings.{begins_lacking}
use Rattle.pmb_stats_room.proofs.command_room.CommandRoom.new.Goals as goal

pub returns-in-Some : goal.returns-in-Some
returns-in-Some c =
    IfOk-weaker c.of_command.result _ _
    (λ room. subst (λ (command : Option CommandParts). BeginsCommand c.args.device.now command room)
    c.in-Some.ensures) c.of_command.ensures

pub returns-in-None : goal.returns-in-None
returns-in-None c =
    subst (λ (command : Option CommandParts). BeginsCommand c.args.device.now command c.empty.result)
    c.in-None.ensures (begins_lacking c.args.device.now c.empty.result c.empty.ensures)
