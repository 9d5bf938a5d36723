use Rattle.std.proofs.Common.{List, [], ◌∷◌, ◌++◌, length, ap, subst, sym, arith, refl}
use Rattle.pmb_bus.specs.declared.event.Event.TheVariants.{Nack, Stop}
use Rattle.pmb_transaction.specs.Transaction.{PartData}
use Rattle.pmb_transaction.specs.Packet.{Packet}
use Rattle.pmb_packet_state.specs.declared.packet_state.PacketPlace.TheVariants as places
use Rattle.pmb_packet_state.proofs.Steps.{at_place, moves_to_end}
use Rattle.pmb_packet_state.proofs.WrittenLegs.{address_refused_follows, refused_address_ends}
use Rattle.pmb_packet_state.proofs.packet_state.PacketState.refuse_address.Goals as goal

pub returns-then-part_count-gt-MOST_BEFORE : goal.returns-then-part_count-gt-MOST_BEFORE
returns-then-part_count-gt-MOST_BEFORE c = λ profile events at stands.
    let here = at_place profile c.args.self.now events (places.Address c.args.addr) at stands in
    let count = ap (λ (ps : List PartData). length ps) here.has.same in
    absurd (omega (arith, count, here.has.few, c.part_count.ensures, c.if-part_count-gt-MOST_BEFORE.true))

pub returns : goal.returns
returns c = λ profile events at stands.
    let bus = stands.bus in
    let here = at_place profile c.args.self.now events (places.Address c.args.addr) at stands in
    let after = record c.args.self.now { place = places.End; kept = c.end_refused.new.self } in
    moves_to_end profile events after stands.known stands.bus refl
    (address_refused_follows profile bus c.args.self.now c.args.addr events here
    (c.addresses_may_be_refused.ensures profile))
    (subst (λ t. Packet profile t ((events ++ Nack ∷ []) ++ Stop ∷ [])) (sym c.end_refused.ensures)
    (refused_address_ends profile bus c.args.self.now c.args.addr events here
    (c.refused_addresses_are_packets.ensures profile)))
