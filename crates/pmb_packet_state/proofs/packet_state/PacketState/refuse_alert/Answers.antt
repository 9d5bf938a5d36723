use Rattle.std.proofs.Common.{◌≡◌, ℕ, List, [], ◌∷◌, ◌++◌, ap, subst, sym, refl, ◌∙◌}
use Rattle.pmb_bus.specs.declared.event.Event.{Event}
use Rattle.pmb_bus.specs.declared.event.Event.TheVariants.{Start, Byte, Nack, Stop}
use Rattle.pmb_bus.specs.Address.{read_address, alert_address}
use Rattle.pmb_transaction.specs.Packet.{Packet}
use Rattle.pmb_transaction.specs.Capture.{MayFollow}
use Rattle.pmb_packet_state.specs.declared.packet_state.PacketPlace.TheVariants as places
use Rattle.pmb_packet_state.specs.declared.packet_state.Answerer.TheVariants as sources
use Rattle.pmb_packet_state.proofs.Steps.{at_place, moves_to_end}
use Rattle.pmb_packet_state.proofs.packet_state.PacketState.refuse_alert.Goals as goal

pub returns : goal.returns
returns c = λ profile events at stands.
    let here = at_place profile c.args.self.now events (places.ReadAddress sources.Alert) at stands in
    let is : events ≡ Start ∷ Byte (read_address alert_address) ∷ [] =
    here.spelled ∙ ap (λ (es : List Event). es ++ Start ∷ Byte (read_address here.addr) ∷ []) here.asked.0
    ∙ ap (λ (a : ℕ). Start ∷ Byte (read_address a) ∷ []) here.asked.1 in
    moves_to_end profile events (record c.args.self.now { place = places.End; kept = c.end_no_alert.new.self })
    stands.known stands.bus refl
    (subst (λ (es : List Event). MayFollow profile es Nack) (sym is) (c.alerts_may_be_refused.ensures profile))
    (subst (λ t. Packet profile t ((events ++ Nack ∷ []) ++ Stop ∷ [])) (sym c.end_no_alert.ensures)
    (ap (λ (es : List Event). (es ++ Nack ∷ []) ++ Stop ∷ []) is))
