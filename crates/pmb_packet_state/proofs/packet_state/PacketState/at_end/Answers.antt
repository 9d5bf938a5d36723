use Rattle.std.proofs.Common.{◌≡◌, true, [], ◌∷◌, ◌++◌, subst, sym, refl}
use Rattle.pmb_bus.specs.declared.event.Event.{Event}
use Rattle.pmb_transaction.specs.Packet.{Packet}
use Rattle.pmb_transaction.specs.Turns.{is_stop}
use Rattle.pmb_packet_state.specs.declared.packet_state.PacketPlace.{PacketPlace}
use Rattle.pmb_packet_state.specs.declared.packet_state.PacketPlace.TheVariants as places
use Rattle.pmb_packet_state.specs.machine.PacketState.{has_turn}
use Rattle.pmb_packet_state.proofs.Steps.{at_place, other_than_stop, restarts}
use Rattle.pmb_packet_state.proofs.packet_state.PacketState.at_end.Goals as goal

pub returns-in_default : goal.returns-in_default
returns-in_default c = λ profile events at stands. (
  λ turn follows.
      let here : is_stop c.args.event ≡ true = subst (λ (p : PacketPlace). has_turn p c.args.event ≡ true) at turn in
      cc (here, other_than_stop c.args.event c.in_default.not-Stop),
  refl,
)

pub returns : goal.returns
returns c = λ profile events at stands.
    let here = at_place profile c.args.self.now events places.End at stands in (
      subst (λ (e : Event). Packet profile c.args.self.now.kept.last (events ++ e ∷ [])) (sym c.in-Stop.is) here.packet,
      restarts profile c.args.self.now (record c.args.self.now { place = places.Between }) events stands stands.known
          refl,
    )
