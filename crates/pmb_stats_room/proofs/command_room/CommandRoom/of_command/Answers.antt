use Rattle.std.proofs.Common.{sym}
use Rattle.std.proofs.lemmas.Result.{IfOk-weaker}
use Rattle.pmb_keys.specs.CommandView.{command_parts}
use Rattle.pmb_stats_room.proofs.Beginnings.{begins_kept, begins_unkept}
use Rattle.pmb_stats_room.proofs.command_room.CommandRoom.of_command.Goals as goal

pub returns-in-Some : goal.returns-in-Some
returns-in-Some c =
    IfOk-weaker c.of_kind.result _ _
    (λ room. begins_kept c.args.device.now (command_parts c.args.command.now) c.in-Some.kind c.of.result room
    (sym c.in-Some.ensures) c.of.ensures) c.of_kind.ensures

pub returns-in-None : goal.returns-in-None
returns-in-None c =
    begins_unkept c.args.device.now (command_parts c.args.command.now) c.empty.result (sym c.in-None.ensures)
    c.empty.ensures
