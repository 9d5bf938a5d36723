use Rattle.std.proofs.Common.{Option, arith, subst, sym}
use Rattle.pmb_observed.specs.Observed.{numbers_at, reads_at}
use Rattle.pmb_observed.specs.Spot.{command_on}
use Rattle.pmb_stats_room.specs.declared.slot.Slot.{Slot}
use Rattle.pmb_stats_room.specs.machine.Standing.{IsKept}
use Rattle.pmb_stats_room.proofs.Telling.{register_told}
use Rattle.pmb_stats_room.proofs.room.Room.register.Goals as goal

pub returns-in-Some : goal.returns-in-Some
returns-in-Some c profile told stands =
    let spot = c.args.spot in
    register_told (command_on profile spot) c.in-Some.slot.now (reads_at spot told) (numbers_at spot told)
    c.bits.result c.bits.ensures.bits c.bits.ensures.sixteen
    (subst (λ (slot : Option Slot). IsKept (command_on profile spot) slot (reads_at spot told) (numbers_at spot told))
    (sym c.in-Some.ensures)
    (stands.each spot (record { addr = omega arith; code = omega arith })))
