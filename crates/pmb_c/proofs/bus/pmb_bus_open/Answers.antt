use Rattle.std.proofs.Common.{refl}
use Rattle.std.specs.Arc.{arc_value}
use Rattle.pmb_c.specs.Bus.{Opened}
use Rattle.pmb_c.proofs.bus.pmb_bus_open.Goals as goal

-- the devices of the profile that is lent were made, and are held
pub returns-in-Some-clause-opens : goal.returns-in-Some-clause-opens
returns-in-Some-clause-opens c =
    Opened (arc_value c.in-Ok.devices) c.in-Some.held.value c.in-Ok.ensures.lends c.in-Some.ensures c.of.ensures
    (rw c.number.ensures refl)
