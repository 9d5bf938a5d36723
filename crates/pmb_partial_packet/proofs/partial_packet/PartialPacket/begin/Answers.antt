use Rattle.std.proofs.Common.{refl, subst, sym, []}
use Rattle.pmb_partial_packet.specs.machine.KeptLegs.{KeepsLegs, LegsData}
use Rattle.pmb_partial_packet.proofs.Stands.{stands_at_nothing}
use Rattle.pmb_partial_packet.proofs.partial_packet.PartialPacket.begin.Goals as goal

pub returns : goal.returns
returns c =
    stands_at_nothing c.clear.new.self
    (subst (λ (k : LegsData). KeepsLegs k []) (sym c.clear.ensures)
    (record { last = refl; address = refl; written_address = refl; written = refl; reply = refl }))
