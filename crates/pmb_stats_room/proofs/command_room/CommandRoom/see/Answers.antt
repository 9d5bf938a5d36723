use Rattle.std.proofs.Common.{sym}
use Rattle.pmb_stats_room.proofs.SpotPlaces.{command_lacks, command_takes}
use Rattle.pmb_stats_room.proofs.command_room.CommandRoom.see.Goals as goal

pub returns-in-Some : goal.returns-in-Some
returns-in-Some c =
    command_takes c.args.spot c.in-Some.place c.args.sight c.args.self.now c.see_at.new.self
    (sym c.in-Some.ensures) c.see_at.ensures.places c.see_at.ensures.slots

pub returns-in_default : goal.returns-in_default
returns-in_default c = command_lacks c.args.spot c.args.sight c.args.self.now (sym c.in_default.ensures)
