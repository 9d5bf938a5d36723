use Rattle.std.proofs.Common.{refl}
use Rattle.pmb_firmware.specs.Number.{nearest}
use Rattle.pmb_firmware.proofs.number.encode_quantity.Goals as goal

pub returns-in-Ok : goal.returns-in-Ok
returns-in-Ok c = nearest c.in-Ok.ensures.nearest (c.in-Ok.ensures.in_range.0 refl) (rw c.number.ensures refl)
