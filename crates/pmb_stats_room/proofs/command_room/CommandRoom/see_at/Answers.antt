use Rattle.std.proofs.Common.{refl}
use Rattle.pmb_stats_room.proofs.Lists.{has_item, lacks_item}
use Rattle.pmb_stats_room.proofs.Taking.{slot_takes, slots_lack, slots_take}
use Rattle.pmb_stats_room.proofs.command_room.CommandRoom.see_at.Goals as goal

pub returns-in-Some-clause-slots : goal.returns-in-Some-clause-slots
returns-in-Some-clause-slots c =
    slots_take c.args.self.now.slots.items c.args.place c.in-Some.slot.now c.see.new.self c.args.sight
    (has_item c.args.self.now.slots c.args.place c.in-Some.slot.now (c.in-Some.ensures.variant.0 refl)
    c.in-Some.ensures.value)
    (slot_takes c.args.sight c.in-Some.slot.now c.see.new.self c.see.ensures.kind c.see.ensures.seen)

pub returns-in_default-clause-slots : goal.returns-in_default-clause-slots
returns-in_default-clause-slots c =
    slots_lack c.args.self.now.slots.items c.args.place c.args.sight
    (lacks_item c.args.self.now.slots c.args.place (λ within. cc (c.in_default.ensures.variant.1 within)))
