-- The set of one kind, where that alone may follow: a byte, STOP or START. For `expected`. Kinds
-- are bits: 1 is START, 2 a byte, 4 ACK, 8 NACK, 16 STOP; so each event is in its own set and in no
-- other.
use Rattle.std.proofs.Common.{◌≡◌, ℕ, ◌⊎◌, inl, inr, true, List, [], ◌∷◌, ◌++◌, refl, sym, ap, subst, ◌∙◌, arith}
use Rattle.pmb_bus.specs.declared.event.Event.{Event}
use Rattle.pmb_bus.specs.declared.event.Event.TheVariants.{Start, Byte, Ack, Nack, Stop}
use Rattle.pmb_bus.specs.Address.{read_address}
use Rattle.pmb_bus.specs.Kinds.{AreKindsOf, holds, kind_of}
use Rattle.pmb_command.specs.Bus.{IsBus}
use Rattle.pmb_command.specs.Parts.{DeviceParts}
use Rattle.pmb_transaction.specs.Packet.{leg}
use Rattle.pmb_transaction.specs.Capture.{MayFollow}
use Rattle.pmb_transaction.specs.Turns.{is_byte, is_stop}
use Rattle.pmb_packet_state.specs.declared.packet_state.Answerer.{Answerer}
use Rattle.pmb_packet_state.specs.declared.packet_state.PacketPlace.{PacketPlace}
use Rattle.pmb_packet_state.specs.declared.packet_state.PacketPlace.TheVariants as places
use Rattle.pmb_packet_state.specs.declared.packet_state.PacketState.{PacketState}
use Rattle.pmb_packet_state.specs.machine.PacketState.{IsPacketPlace}
use Rattle.pmb_packet_state.proofs.Steps.{TakeTurns}

module _ (profile : List DeviceParts) (events : List Event)
    (some : (event : Event) × MayFollow profile events event) where
  byte_kind : (event : Event) → is_byte event ≡ true → kind_of event ≡ 2
  byte_kind Start is = absurd (cc is)
  byte_kind (Byte b) is = refl
  byte_kind Ack is = absurd (cc is)
  byte_kind Nack is = absurd (cc is)
  byte_kind Stop is = absurd (cc is)

  byte_held : (event : Event) → holds (record { 0 = 2 }) event ≡ true → 2 ≡ kind_of event
  byte_held Start is = absurd (cc is)
  byte_held (Byte b) is = refl
  byte_held Ack is = absurd (cc is)
  byte_held Nack is = absurd (cc is)
  byte_held Stop is = absurd (cc is)

  holds_byte : (event : Event) → is_byte event ≡ true → holds (record { 0 = 2 }) event ≡ true
  holds_byte Start is = absurd (cc is)
  holds_byte (Byte b) is = refl
  holds_byte Ack is = absurd (cc is)
  holds_byte Nack is = absurd (cc is)
  holds_byte Stop is = absurd (cc is)

  pub bytes_alone : ((event : Event) → MayFollow profile events event → is_byte event ≡ true)
      → AreKindsOf (MayFollow profile events) (record { 0 = 2 })
  bytes_alone turn = record {
    known = omega arith;
    each = λ event follows. holds_byte event (turn event follows);
    only = λ event held. (some.0, byte_kind some.0 (turn some.0 some.1) ∙ byte_held event held, some.1);
  }

  stop_kind : (event : Event) → is_stop event ≡ true → kind_of event ≡ 16
  stop_kind Start is = absurd (cc is)
  stop_kind (Byte b) is = absurd (cc is)
  stop_kind Ack is = absurd (cc is)
  stop_kind Nack is = absurd (cc is)
  stop_kind Stop is = refl

  stop_held : (event : Event) → holds (record { 0 = 16 }) event ≡ true → 16 ≡ kind_of event
  stop_held Start is = absurd (cc is)
  stop_held (Byte b) is = absurd (cc is)
  stop_held Ack is = absurd (cc is)
  stop_held Nack is = absurd (cc is)
  stop_held Stop is = refl

  holds_stop : (event : Event) → is_stop event ≡ true → holds (record { 0 = 16 }) event ≡ true
  holds_stop Start is = absurd (cc is)
  holds_stop (Byte b) is = absurd (cc is)
  holds_stop Ack is = absurd (cc is)
  holds_stop Nack is = absurd (cc is)
  holds_stop Stop is = refl

  pub stop_alone : ((event : Event) → MayFollow profile events event → is_stop event ≡ true)
      → AreKindsOf (MayFollow profile events) (record { 0 = 16 })
  stop_alone turn = record {
    known = omega arith;
    each = λ event follows. holds_stop event (turn event follows);
    only = λ event held. (some.0, stop_kind some.0 (turn some.0 some.1) ∙ stop_held event held, some.1);
  }

  start_held : (event : Event) → holds (record { 0 = 1 }) event ≡ true → 1 ≡ kind_of event
  start_held Start is = refl
  start_held (Byte b) is = absurd (cc is)
  start_held Ack is = absurd (cc is)
  start_held Nack is = absurd (cc is)
  start_held Stop is = absurd (cc is)

  pub start_alone : ((event : Event) → MayFollow profile events event → event ≡ Start)
      → AreKindsOf (MayFollow profile events) (record { 0 = 1 })
  start_alone turn = record {
    known = omega arith;
    each = λ event follows. subst (λ (e : Event). holds (record { 0 = 1 }) e ≡ true) (sym (turn event follows)) refl;
    only = λ event held. (some.0, ap (λ (e : Event). kind_of e) (turn some.0 some.1) ∙ start_held event held, some.1);
  }

-- ---- places after which a byte alone may follow

-- after START, and in a leg that is read after ACK
abbrev pub IsBeforeByte : PacketPlace → Type 0
IsBeforeByte place = (place ≡ places.Start) ⊎ ((place ≡ places.Restart) ⊎ ((s : Answerer) × (place ≡ places.Answer s)))

pub not_between : (place : PacketPlace) → IsBeforeByte place → place ≡ places.Between → ⊥
not_between place (inl is) between = cc (is, between)
not_between place (inr (inl is)) between = cc (is, between)
not_between place (inr (inr is)) between = let at = is.1 in cc (at, between)

pub bytes_alone_here : (turns : TakeTurns) (profile : List DeviceParts) → IsBus profile
    → ((front : List Event) (addr : ℕ) (bytes : List ℕ) (event : Event) → IsBus profile
    → MayFollow profile (front ++ leg (read_address addr ∷ bytes)) event
    → is_byte event ≡ true)
    → (u : PacketState) (place : PacketPlace) (events : List Event) → IsBeforeByte place
    → IsPacketPlace place profile u events
    → (event : Event) → MayFollow profile events event → is_byte event ≡ true
bytes_alone_here turns profile bus answers u place events (inl is) at event follows =
    let here : IsPacketPlace places.Start profile u events =
    subst (λ (p : PacketPlace). IsPacketPlace p profile u events) is at in
    turns profile [] Start event (subst (λ (es : List Event). MayFollow profile es event) here.0 follows)
bytes_alone_here turns profile bus answers u place events (inr (inl is)) at event follows =
    let here : IsPacketPlace places.Restart profile u events =
    subst (λ (p : PacketPlace). IsPacketPlace p profile u events) is at in
    turns profile here.front Start event (subst (λ (es : List Event). MayFollow profile es event) here.spelled follows)
bytes_alone_here turns profile bus answers u place events (inr (inr is)) at event follows =
    let here : IsPacketPlace (places.Answer is.0) profile u events =
    subst (λ (p : PacketPlace). IsPacketPlace p profile u events) is.1 at in
    answers here.front here.addr u.answer.bytes event bus
    (subst (λ (es : List Event). MayFollow profile es event) here.spelled follows)
