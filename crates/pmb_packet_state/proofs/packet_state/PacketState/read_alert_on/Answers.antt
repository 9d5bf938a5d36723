use Rattle.std.proofs.Common.{◌≡◌, ℕ, List, [], ◌∷◌, ◌++◌, ap, subst, sym, refl, ◌∙◌}
use Rattle.pmb_bus.specs.declared.event.Event.{Event}
use Rattle.pmb_bus.specs.declared.event.Event.TheVariants.{Start, Byte, Ack}
use Rattle.pmb_bus.specs.Address.{read_address, alert_address}
use Rattle.pmb_transaction.specs.Packet.{leg}
use Rattle.pmb_transaction.specs.Capture.{MayFollow}
use Rattle.pmb_packet_state.specs.declared.packet_state.PacketPlace.TheVariants as places
use Rattle.pmb_packet_state.specs.declared.packet_state.Answerer.TheVariants as sources
use Rattle.pmb_packet_state.proofs.Steps.{at_place, moves_on}
use Rattle.pmb_packet_state.proofs.packet_state.PacketState.read_alert_on.Goals as goal

pub returns : goal.returns
returns c = λ profile events at stands.
    let bus = stands.bus in
    let here = at_place profile c.args.self.now events (places.ReadAddress sources.Alert) at stands in
    let is : events ≡ Start ∷ Byte (read_address alert_address) ∷ [] =
    here.spelled ∙ ap (λ (es : List Event). es ++ Start ∷ Byte (read_address here.addr) ∷ []) here.asked.0
    ∙ ap (λ (a : ℕ). Start ∷ Byte (read_address a) ∷ []) here.asked.1 in
    let after = record c.args.self.now { place = places.Answer sources.Alert; answer = c.restart_at_alert.new.self } in
    moves_on profile events Ack after stands.known stands.bus
    (subst (λ (es : List Event). MayFollow profile es Ack) (sym is) (c.alerts_may_be_taken.ensures profile bus))
    (λ e. cc e)
    (
    record {
      front = [];
      addr = alert_address;
      asked = (refl, refl);
      answers = record { answers = c.restart_at_alert.ensures.answers; says = c.restart_at_alert.ensures.says };
      spelled = ap (λ (es : List Event). es ++ Ack ∷ []) is
          ∙ ap (λ (bs : List ℕ). leg (read_address alert_address ∷ bs)) (sym c.restart_at_alert.ensures.fresh);
    }
    )
