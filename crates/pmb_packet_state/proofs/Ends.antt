-- After which events there is no place between packets: at each other place some event came. For
-- `expected`, `is_between`, `take_packet` and `take_canonical`. Each place but `Between` names the
-- last event of those under way.
use Rattle.std.proofs.Common.{◌≡◌, List, [], ◌∷◌, ◌++◌, refl, sym, ◌∙◌}
use Rattle.pmb_bus.specs.declared.event.Event.{Event}
use Rattle.pmb_command.specs.Parts.{DeviceParts}
use Rattle.pmb_packet_state.specs.declared.packet_state.PacketPlace.{PacketPlace}
use Rattle.pmb_packet_state.specs.declared.packet_state.PacketPlace.TheVariants.{Between, Start, Address, Leg, LegByte}
use Rattle.pmb_packet_state.specs.declared.packet_state.PacketPlace.TheVariants.{Restart, ReadAddress, Answer}
use Rattle.pmb_packet_state.specs.declared.packet_state.PacketPlace.TheVariants.{AnswerByte, End}
use Rattle.pmb_packet_state.specs.declared.packet_state.PacketState.{PacketState}
use Rattle.pmb_packet_state.specs.machine.PacketState.{IsPacketPlace}

not_none : (front : List Event) (event : Event) (rest : List Event) → front ++ event ∷ rest ≡ [] → ⊥
not_none [] event rest same = cc same
not_none (e ∷ front) event rest same = cc same

-- some events came at every other place
pub some_events : (profile : List DeviceParts) (u : PacketState) (place : PacketPlace) (events : List Event)
    → (place ≡ Between → ⊥) → IsPacketPlace place profile u events
    → events ≡ [] → ⊥
some_events profile u Between events other here none = other refl
some_events profile u Start events other here none = cc (sym here.0 ∙ none)
some_events profile u (Address addr) events other here none = not_none here.legs _ _ (sym here.spelled ∙ none)
some_events profile u Leg events other here none = not_none here.leg.legs _ _ (sym here.leg.spelled ∙ none)
some_events profile u (LegByte byte) events other here none = not_none here.front _ _ (sym here.spelled ∙ none)
some_events profile u Restart events other here none = not_none here.front _ _ (sym here.spelled ∙ none)
some_events profile u (ReadAddress source) events other here none = not_none here.front _ _ (sym here.spelled ∙ none)
some_events profile u (Answer source) events other here none = not_none here.front _ _ (sym here.spelled ∙ none)
some_events profile u (AnswerByte source) events other here none = not_none _ _ _ (sym here.spelled ∙ none)
some_events profile u End events other here none = not_none here.front _ _ (sym here.spelled ∙ none)

-- so where none came it is the place between packets
pub at_none : (profile : List DeviceParts) (u : PacketState) (place : PacketPlace) → IsPacketPlace place profile u []
    → place ≡ Between
at_none profile u Between here = refl
at_none profile u Start here = absurd (some_events profile u Start [] (λ same. cc same) here refl)
at_none profile u (Address addr) here = absurd (some_events profile u (Address addr) [] (λ same. cc same) here refl)
at_none profile u Leg here = absurd (some_events profile u Leg [] (λ same. cc same) here refl)
at_none profile u (LegByte byte) here = absurd (some_events profile u (LegByte byte) [] (λ same. cc same) here refl)
at_none profile u Restart here = absurd (some_events profile u Restart [] (λ same. cc same) here refl)
at_none profile u (ReadAddress source) here =
    absurd (some_events profile u (ReadAddress source) [] (λ same. cc same) here refl)
at_none profile u (Answer source) here = absurd (some_events profile u (Answer source) [] (λ same. cc same) here refl)
at_none profile u (AnswerByte source) here =
    absurd (some_events profile u (AnswerByte source) [] (λ same. cc same) here refl)
at_none profile u End here = absurd (some_events profile u End [] (λ same. cc same) here refl)
