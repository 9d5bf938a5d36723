use Rattle.pmb_partial_packet.proofs.ShortLegs.{legs_are_short}
use Rattle.pmb_partial_packet.proofs.laws.legs_are_short.Goals as goal

pub returns : goal.returns
returns c =
    let short = c.bodies_are_short.ensures in
    legs_are_short short.data short.checked short.body short.front
