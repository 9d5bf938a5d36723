-- One event more at a place: what a step comes to, from one law on what may follow. For the
-- functions of `src/written_leg.rt` and `src/read_leg.rt` (`at_start`, `at_restart`,
-- `behind_address`, `answer_on`, `at_end` and others). An event that may follow leads to the place
-- that the function gives; one out of its turn is refused.
use Rattle.std.proofs.Common.{◌≡◌, ◌≢◌, ℕ, ◌⊎◌, inl, inr, true, false, List, [], ◌∷◌, ◌++◌, refl, sym, ap, subst, ◌∙◌}
use Rattle.std.proofs.Common.{append_assoc}
use Rattle.pmb_bus.specs.declared.event.Event.{Event}
use Rattle.pmb_bus.specs.declared.event.Event.TheVariants.{Start, Byte, Ack, Nack, Stop}
use Rattle.pmb_command.specs.Bus.{IsBus}
use Rattle.pmb_command.specs.Parts.{DeviceParts}
use Rattle.pmb_transaction.specs.Packet.{Packet, acked, leg}
use Rattle.pmb_transaction.specs.Capture.{IsPacket, MayFollow}
use Rattle.pmb_transaction.specs.Reading.{IsUnderWay}
use Rattle.pmb_transaction.specs.Turns.{is_answer, is_byte, is_no_answer, is_stop, follows_in_turn}
use Rattle.pmb_packet_state.specs.declared.packet_state.PacketPlace.{PacketPlace}
use Rattle.pmb_packet_state.specs.declared.packet_state.PacketPlace.TheVariants as places
use Rattle.pmb_packet_state.specs.declared.packet_state.PacketState.{PacketState}
use Rattle.pmb_packet_state.specs.machine.PacketState.{GoesOn, IsPacketPlace, StandsIn}

no_front : (front rest : List Event) → [] ≡ front ++ rest → front ≡ []
no_front [] rest split = refl
no_front (e ∷ front) rest split = absurd (cc split)

-- the place at which it stands
pub at_place : (profile : List DeviceParts) (u : PacketState) (events : List Event) (place : PacketPlace)
    → u.place ≡ place → StandsIn profile u events
    → IsPacketPlace place profile u events
at_place profile u events place is stands =
    subst (λ (p : PacketPlace). IsPacketPlace p profile u events) is stands.place

-- An event that may follow leads to a place.
pub moves_on : (profile : List DeviceParts) (events : List Event) (event : Event) (after : PacketState)
    → after.profile.now ≡ profile → IsBus profile
    → MayFollow profile events event → event ≢ Stop → IsPacketPlace after.place profile after (events ++ event ∷ [])
    → GoesOn profile events event after
moves_on profile events event after known bus follows other place =
    record { known = known; bus = bus; follows = follows; no_stop = other; place = place }

-- It leads to a place, where nothing else changes.
pub moves_to : (profile : List DeviceParts) (u : PacketState) (place : PacketPlace) (events : List Event)
    (event : Event) → u.profile.now ≡ profile → IsBus profile
    → MayFollow profile events event → event ≢ Stop
    → IsPacketPlace place profile (record u { place = place }) (events ++ event ∷ [])
    → GoesOn profile events event (record u { place = place })
moves_to profile u place events event known bus follows other here =
    moves_on profile events event (record u { place = place }) known bus follows other here

-- NACK leads to the end of a packet.
pub moves_to_end : (profile : List DeviceParts) (events : List Event) (after : PacketState)
    → after.profile.now ≡ profile → IsBus profile
    → after.place ≡ places.End → MayFollow profile events Nack
    → Packet profile after.kept.last ((events ++ Nack ∷ []) ++ Stop ∷ [])
    → GoesOn profile events Nack after
moves_to_end profile events after known bus at follows packet =
    moves_on profile events Nack after known bus follows (λ e. cc e)
    (subst (λ (p : PacketPlace). IsPacketPlace p profile after (events ++ Nack ∷ [])) (sym at)
    (record { front = events; spelled = refl; packet = packet }))

-- Between packets no event is under way.
pub between_packets : (profile : List DeviceParts) (u : PacketState) → (IsPacket profile [] → ⊥)
    → u.profile.now ≡ profile → IsBus profile
    → u.place ≡ places.Between → StandsIn profile u []
between_packets profile u none known bus between = record {
  known = known;
  bus = bus;
  goes = record {
    viable = inl refl;
    no_packet =
        λ front rest split packet. none (subst (IsPacket profile) (no_front front rest split) packet);
  };
  place = subst (λ (p : PacketPlace). IsPacketPlace p profile u []) (sym between) refl;
}

-- It stands there again, whichever events were under way.
pub restarts : (profile : List DeviceParts) (u after : PacketState) (events : List Event) → StandsIn profile u events
    → after.profile.now ≡ profile
    → after.place ≡ places.Between → StandsIn profile after []
restarts profile u after events stands known between =
    between_packets profile after (stands.goes.no_packet [] events refl) known stands.bus between

-- a byte is no STOP
pub byte_is_no_stop : (event : Event) (byte : ℕ) → event ≡ Byte byte → event ≢ Stop
byte_is_no_stop event byte is stop = cc (is, stop)

-- After one event another may follow in its turn alone.
abbrev pub TakeTurns : Type 0
TakeTurns =
    (profile : List DeviceParts) (events : List Event) (before event : Event)
    → MayFollow profile (events ++ before ∷ []) event
    → follows_in_turn before event ≡ true

-- the last of some events
pub record EndsWith (events : List Event) (last : Event) : Type 0 where
  pub front : List Event
  pub split : events ≡ front ++ last ∷ []

pub not_its_turn : (turns : TakeTurns) (profile : List DeviceParts) (events : List Event) (before event : Event)
    → EndsWith events before
    → follows_in_turn before event ≡ false → MayFollow profile events event → ⊥
not_its_turn turns profile events before event ends unfit follows =
    let turn = turns profile ends.front before event
    (subst (λ (es : List Event). MayFollow profile es event) ends.split follows) in
    cc (unfit, turn)

acked_ends : (front : List Event) (byte : ℕ) (bytes : List ℕ) → EndsWith (front ++ acked (byte ∷ bytes)) Ack
acked_ends front byte [] = record {
  front = front ++ Byte byte ∷ [];
  split =
      sym (append_assoc front (Byte byte ∷ []) (Ack ∷ []));
}
acked_ends front byte (b ∷ bytes) =
    let more = acked_ends (front ++ Byte byte ∷ Ack ∷ []) b bytes in
    record {
      front = more.front;
      split = sym (append_assoc front (Byte byte ∷ Ack ∷ []) (acked (b ∷ bytes)))
          ∙ more.split;
    }

-- a leg ends with ACK
pub leg_ends : (front : List Event) (byte : ℕ) (bytes : List ℕ) → EndsWith (front ++ leg (byte ∷ bytes)) Ack
leg_ends front byte bytes =
    let more = acked_ends (front ++ Start ∷ []) byte bytes in
    record { front = more.front; split = sym (append_assoc front (Start ∷ []) (acked (byte ∷ bytes))) ∙ more.split }

acked_grows : (bytes : List ℕ) (byte : ℕ) → acked bytes ++ Byte byte ∷ Ack ∷ [] ≡ acked (bytes ++ byte ∷ [])
acked_grows [] byte = refl
acked_grows (b ∷ bytes) byte = ap (λ (es : List Event). Byte b ∷ Ack ∷ es) (acked_grows bytes byte)

-- with a byte that was taken it is longer
pub leg_grows : (front : List Event) (bytes : List ℕ) (byte : ℕ) → ((front ++ leg bytes) ++ Byte byte ∷ []) ++ Ack ∷ []
    ≡ front ++ leg (bytes ++ byte ∷ [])
leg_grows front bytes byte =
    append_assoc (front ++ leg bytes) (Byte byte ∷ []) (Ack ∷ [])
    ∙ append_assoc front (leg bytes) (Byte byte ∷ Ack ∷ [])
    ∙ ap (λ (es : List Event). front ++ Start ∷ es) (acked_grows bytes byte)

-- ---- events out of their turn

pub no_answer_here : (event : Event) → (event ≡ Start) ⊎ (((b : ℕ) × (event ≡ Byte b)) ⊎ (event ≡ Stop))
    → is_answer event ≡ false
no_answer_here event (inl is) = ap is_answer is
no_answer_here event (inr (inl is)) = ap is_answer is.1
no_answer_here event (inr (inr is)) = ap is_answer is

pub answer_here : (event : Event) → (event ≡ Ack) ⊎ (event ≡ Nack) → is_no_answer event ≡ false
answer_here event (inl is) = ap is_no_answer is
answer_here event (inr is) = ap is_no_answer is

pub no_byte_here : (event : Event) → (event ≡ Start) ⊎ ((event ≡ Ack) ⊎ ((event ≡ Nack) ⊎ (event ≡ Stop)))
    → is_byte event ≡ false
no_byte_here event (inl is) = ap is_byte is
no_byte_here event (inr (inl is)) = ap is_byte is
no_byte_here event (inr (inr (inl is))) = ap is_byte is
no_byte_here event (inr (inr (inr is))) = ap is_byte is

pub other_than_byte : (event : Event) → ((b : ℕ) → event ≡ Byte b → ⊥) → is_byte event ≡ false
other_than_byte Start other = refl
other_than_byte (Byte b) other = absurd (other b refl)
other_than_byte Ack other = refl
other_than_byte Nack other = refl
other_than_byte Stop other = refl

pub other_than_stop : (event : Event) → (event ≡ Stop → ⊥) → is_stop event ≡ false
other_than_stop Start other = refl
other_than_stop (Byte b) other = refl
other_than_stop Ack other = refl
other_than_stop Nack other = refl
other_than_stop Stop other = absurd (other refl)
