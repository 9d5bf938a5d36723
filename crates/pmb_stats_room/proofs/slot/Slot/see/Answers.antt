use Rattle.std.proofs.Common.{subst}
use Rattle.pmb_stats_room.proofs.slot.Slot.see.Goals as goal
use Rattle.pmb_stats_room.specs.declared.slot.Slot.{Slot}
use Rattle.pmb_stats_room.specs.machine.Slots.{HasSeen}

pub returns-in-Bits-clause-seen : goal.returns-in-Bits-clause-seen
returns-in-Bits-clause-seen c reads numbers seen =
    c.see_bits.ensures reads (subst (λ (slot : Slot). HasSeen slot reads numbers) c.in-Bits.is seen)
