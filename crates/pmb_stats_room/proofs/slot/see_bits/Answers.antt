use Rattle.std.proofs.Common.{◌++◌, subst, sym}
use Rattle.pmb_stats_room.proofs.slot.see_bits.Goals as goal
use Rattle.pmb_stats_room.specs.declared.sight.Sight.{Sight}
use Rattle.pmb_stats_room.specs.machine.Sights.{reads_in}
use Rattle.pmb_stats_room.specs.machine.Slots.{HaveRead}

pub returns-in-Read : goal.returns-in-Read
returns-in-Read c reads have =
    subst (λ (sight : Sight). HaveRead c.see.new.self (reads ++ reads_in sight)) (sym c.in-Read.is)
    (c.see.ensures reads have)
