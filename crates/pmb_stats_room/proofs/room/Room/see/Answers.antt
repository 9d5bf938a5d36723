use Rattle.std.proofs.Common.{refl}
use Rattle.pmb_stats_room.proofs.Layers.{room_lacks, room_takes}
use Rattle.pmb_stats_room.proofs.Lists.{has_item, lacks_item}
use Rattle.pmb_stats_room.proofs.room.Room.see.Goals as goal

pub returns-in-Some : goal.returns-in-Some
returns-in-Some c =
    room_takes c.args.spot c.args.sight c.args.self.now c.from.result c.in-Some.device.now c.see.new.self
    c.from.ensures
    (has_item c.args.self.now.devices c.from.result c.in-Some.device.now (c.in-Some.ensures.variant.0 refl)
    c.in-Some.ensures.value) c.see.ensures

pub returns-in_default : goal.returns-in_default
returns-in_default c =
    room_lacks c.args.spot c.args.sight c.args.self.now c.from.result c.from.ensures
    (lacks_item c.args.self.now.devices c.from.result (λ within. cc (c.in_default.ensures.variant.1 within)))
