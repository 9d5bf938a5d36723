-- Where the packet under way stands, by what is kept of it.
use Rattle.std.specs.Prelude.{◌≡◌, ◌≢◌, ℕ, ◌<◌, ◌≤◌, ◌↔◌, Bool, true, Some, List, [], ◌∷◌, ◌++◌, length, nat_eq}
use Rattle.std.specs.List.{IsDistinct}
use Rattle.pmb_bus.specs.declared.event.Event.{Event}
use Rattle.pmb_bus.specs.declared.event.Event.TheVariants.{Start, Byte, Nack, Stop}
use Rattle.pmb_bus.specs.declared.kinds.Kinds.{Kinds}
use Rattle.pmb_bus.specs.Kinds.{AreKindsOf}
use Rattle.pmb_bus.specs.Address.{write_address, read_address, alert_address}
use Rattle.pmb_command.specs.Bus.{IsBus}
use Rattle.pmb_command.specs.Parts.{DeviceParts, IsNew, device_with}
use Rattle.pmb_command.specs.Wire.{IsByte}
use Rattle.pmb_transaction.specs.Transaction.{PartData, TransactionData}
use Rattle.pmb_transaction.specs.Body.{WriteBody, IsWriteBody}
use Rattle.pmb_transaction.specs.Packet.{Packet, PartsEvents, addresses, leg}
use Rattle.pmb_transaction.specs.Capture.{MayFollow}
use Rattle.pmb_transaction.specs.Viable.{IsAnswer, IsInsideBody}
use Rattle.pmb_transaction.specs.Following.{IsAlertAnswer}
use Rattle.pmb_transaction.specs.Reading.{IsUnderWay}
use Rattle.pmb_transaction.specs.Turns.{is_answer, is_byte, is_no_answer, is_stop}
use Rattle.pmb_leg.specs.declared.place.LegPlace.TheVariants.{First}
use Rattle.pmb_leg.specs.Leg.{Written, IsRequest, place_of}
use Rattle.pmb_leg.specs.Reply.{IsReply, SaysAlert, SaysAnswer, SaysReply}
use Rattle.pmb_packet_state.specs.declared.packet_state.Move.{Move}
use Rattle.pmb_packet_state.specs.declared.packet_state.Move.TheVariants as moves
use Rattle.pmb_packet_state.specs.declared.packet_state.Answerer.{Answerer}
use Rattle.pmb_packet_state.specs.declared.packet_state.Answerer.TheVariants as sources
use Rattle.pmb_packet_state.specs.declared.packet_state.PacketPlace.{PacketPlace}
use Rattle.pmb_packet_state.specs.declared.packet_state.PacketPlace.TheVariants as places
use Rattle.pmb_packet_state.specs.declared.packet_state.PacketState.{PacketState}
use Rattle.pmb_transaction_slot.specs.TransactionSlot.{KeptData}

-- ---- legs that are written

-- The parts that are kept are complete, and these are their events.
pub record HasParts (profile : List DeviceParts) (kept : KeptData) (parts : List PartData)
    (legs : List Event) : Type 0 where
  pub same : kept.parts ≡ parts
  pub few : length parts ≤ 15
  pub distinct : IsDistinct nat_eq (addresses parts)
  pub each : PartsEvents profile parts legs

-- After them the address byte of a write was sent.
pub record AtAddress (profile : List DeviceParts) (u : PacketState) (addr : ℕ) (events : List Event) : Type 0 where
  pub parts : List PartData
  pub legs : List Event
  pub has : HasParts profile u.kept parts legs
  pub seven : addr < 128
  pub another : IsNew addr (addresses parts)
  pub spelled : events ≡ legs ++ Start ∷ Byte (write_address addr) ∷ []

-- After them stands a leg, of a known device.
pub record IsLeg (profile : List DeviceParts) (kept : KeptData) (written : Written) (parts : List PartData)
    (events : List Event) : Type 0 where
  pub legs : List Event
  pub has : HasParts profile kept parts legs
  pub another : IsNew written.device.address (addresses parts)
  pub known : device_with written.device.address profile ≡ Some written.device
  pub place : place_of parts ≡ written.place
  pub spelled : events ≡ legs ++ leg (write_address written.device.address ∷ written.bytes)

-- It is the leg that is kept.
pub record InLeg (profile : List DeviceParts) (u : PacketState) (events : List Event) : Type 0 where
  pub written : Written
  pub is : u.leg ≡ Some written
  pub parts : List PartData
  pub leg : IsLeg profile u.kept written parts events

-- After that a byte was sent.
pub record BehindByte (profile : List DeviceParts) (u : PacketState) (byte : ℕ) (events : List Event) : Type 0 where
  pub written : Written
  pub is : u.leg ≡ Some written
  pub parts : List PartData
  pub front : List Event
  pub leg : IsLeg profile u.kept written parts front
  pub small : IsByte byte
  pub inside : IsInsideBody written.device parts written.bytes
  pub room : length written.bytes < 258
  pub spelled : events ≡ front ++ Byte byte ∷ []

-- Or START.
pub record BehindStart (profile : List DeviceParts) (u : PacketState) (events : List Event) : Type 0 where
  pub written : Written
  pub is : u.leg ≡ Some written
  pub parts : List PartData
  pub front : List Event
  pub leg : IsLeg profile u.kept written parts front
  pub spelled : events ≡ front ++ Start ∷ []

-- ---- legs that are read

-- The device of the leg that is kept, the packet's first, was asked, and these are its events.
pub record HasAsked (profile : List DeviceParts) (u : PacketState) (front : List Event) (addr : ℕ) : Type 0 where
  pub alone : u.kept.parts ≡ []
  pub written : Written
  pub is : u.leg ≡ Some written
  pub known : device_with written.device.address profile ≡ Some written.device
  pub first : written.place ≡ First
  pub request : IsRequest written.device written.bytes
  pub at : addr ≡ written.device.address
  pub spelled : front ≡ leg (write_address written.device.address ∷ written.bytes)

-- what was asked before the leg, and the address that is read
abbrev pub IsAskedOfSource : Answerer → List DeviceParts → PacketState → List Event → ℕ → Type 0
IsAskedOfSource sources.Device profile u front addr = HasAsked profile u front addr
IsAskedOfSource sources.Alert profile u front addr = (front ≡ []) × (addr ≡ alert_address)

-- the stored answer belongs to the leg's request
pub record AnswersDevice (u : PacketState) : Type 0 where
  pub written : Written
  pub is : u.leg ≡ Some written
  pub answers : (all : List ℕ) → (IsReply u.answer.expected all
      ↔ IsAnswer written.device written.device.address written.bytes all)
  pub says : (reply : List ℕ) (with_pec : Bool) (all : List ℕ)
      → (SaysReply u.answer.expected reply with_pec all
      ↔ SaysAnswer written.device written.device.address written.bytes reply with_pec all)

pub record AnswersAlert (u : PacketState) : Type 0 where
  pub answers : (all : List ℕ) → (IsReply u.answer.expected all ↔ IsAlertAnswer all)
  pub says : (reply : List ℕ) (with_pec : Bool) (all : List ℕ)
      → (SaysReply u.answer.expected reply with_pec all ↔ SaysAlert reply with_pec all)

abbrev pub AnswersSource : Answerer → PacketState → Type 0
AnswersSource sources.Device u = AnswersDevice u
AnswersSource sources.Alert u = AnswersAlert u

-- The address byte was sent.
pub record AtReadAddress (profile : List DeviceParts) (u : PacketState) (source : Answerer)
    (events : List Event) : Type 0 where
  pub front : List Event
  pub addr : ℕ
  pub asked : IsAskedOfSource source profile u front addr
  pub spelled : events ≡ front ++ Start ∷ Byte (read_address addr) ∷ []

-- The bytes of the answer were taken.
pub record InAnswer (profile : List DeviceParts) (u : PacketState) (source : Answerer)
    (events : List Event) : Type 0 where
  pub front : List Event
  pub addr : ℕ
  pub asked : IsAskedOfSource source profile u front addr
  pub answers : AnswersSource source u
  pub spelled : events ≡ front ++ leg (read_address addr ∷ u.answer.bytes)

-- Its last byte was sent.
pub record BehindAnswerByte (profile : List DeviceParts) (u : PacketState) (source : Answerer)
    (events : List Event) : Type 0 where
  pub front : List Event
  pub addr : ℕ
  pub asked : IsAskedOfSource source profile u front addr
  pub answers : AnswersSource source u
  pub bytes : List ℕ
  pub byte : ℕ
  pub last : u.answer.bytes ≡ bytes ++ byte ∷ []
  pub spelled : events ≡ front ++ leg (read_address addr ∷ bytes) ++ Byte byte ∷ []

-- ---- the end

-- NACK came, and with STOP this is the packet of the transaction that is kept.
pub record AtEnd (profile : List DeviceParts) (u : PacketState) (events : List Event) : Type 0 where
  pub front : List Event
  pub spelled : events ≡ front ++ Nack ∷ []
  pub packet : Packet profile u.kept.last (events ++ Stop ∷ [])

-- what each place says of the events
abbrev pub IsPacketPlace : PacketPlace → List DeviceParts → PacketState → List Event → Type 0
IsPacketPlace places.Between profile u events = events ≡ []
IsPacketPlace places.Start profile u events = (events ≡ Start ∷ []) × (u.kept.parts ≡ [])
IsPacketPlace (places.Address addr) profile u events = AtAddress profile u addr events
IsPacketPlace places.Leg profile u events = InLeg profile u events
IsPacketPlace (places.LegByte byte) profile u events = BehindByte profile u byte events
IsPacketPlace places.Restart profile u events = BehindStart profile u events
IsPacketPlace (places.ReadAddress source) profile u events = AtReadAddress profile u source events
IsPacketPlace (places.Answer source) profile u events = InAnswer profile u source events
IsPacketPlace (places.AnswerByte source) profile u events = BehindAnswerByte profile u source events
IsPacketPlace places.End profile u events = AtEnd profile u events

-- The events are those of the packet under way. Its profile was accepted.
pub record StandsIn (profile : List DeviceParts) (u : PacketState) (events : List Event) : Type 0 where
  pub known : u.profile.now ≡ profile
  pub bus : IsBus profile
  pub goes : IsUnderWay profile events
  pub place : IsPacketPlace u.place profile u events

-- the transaction whose packet ended last
abbrev pub packet_of : PacketState → TransactionData
packet_of u = u.kept.last

-- ---- one event more

-- The packet can have an event here, and this is its place then.
pub record GoesOn (profile : List DeviceParts) (events : List Event) (event : Event)
    (after : PacketState) : Type 0 where
  pub known : after.profile.now ≡ profile
  pub bus : IsBus profile
  pub follows : MayFollow profile events event
  pub no_stop : event ≢ Stop
  pub place : IsPacketPlace after.place profile after (events ++ event ∷ [])

-- whether an event has its turn at a place: after START a byte, after a byte its answer, after ACK
-- what is no answer, after NACK STOP
abbrev pub has_turn : PacketPlace → Event → Bool
has_turn places.Between event = true
has_turn places.Start event = is_byte event
has_turn (places.Address addr) event = is_answer event
has_turn places.Leg event = is_no_answer event
has_turn (places.LegByte byte) event = is_answer event
has_turn places.Restart event = is_byte event
has_turn (places.ReadAddress source) event = is_answer event
has_turn (places.Answer source) event = is_no_answer event
has_turn (places.AnswerByte source) event = is_answer event
has_turn places.End event = is_stop event

-- What an event comes to at a place. `PacketState.step` says the same by `Moves`: where the packet goes
-- on, it is still under way, and an event that has no turn may not follow.
abbrev pub Steps : List DeviceParts → PacketState → List Event → Event → Move → PacketState → Type 0
Steps profile before events event moves.On after = GoesOn profile events event after
Steps profile before events event moves.Packet after = Packet profile (packet_of after) (events ++ event ∷ [])
    × StandsIn profile after []
Steps profile before events event moves.Refused after =
    (has_turn before.place event ≡ true → MayFollow profile events event → ⊥) × (after ≡ before)

-- so it is where the packet stands at a place
abbrev pub StepsAt : PacketPlace → PacketState → Event → Move → PacketState → Type 0
StepsAt place before event move after = (profile : List DeviceParts) (events : List Event) → before.place ≡ place
    → StandsIn profile before events
    → Steps profile before events event move after

-- the kinds of the events that may follow there
abbrev pub ExpectsAt : PacketPlace → PacketState → Kinds → Type 0
ExpectsAt place u kinds = (profile : List DeviceParts) (events : List Event) → u.place ≡ place
    → StandsIn profile u events
    → AreKindsOf (MayFollow profile events) kinds

-- ---- one part more

-- The leg that is kept was pushed to the parts.
pub record PushesLeg (u : PacketState) (after : PacketState) : Type 0 where
  pub written : Written
  pub is : u.leg ≡ Some written
  pub part : PartData
  pub at : part.addr ≡ written.device.address
  pub body : WriteBody written.device part.code part.bytes part.pec written.bytes
  pub pushed : after.kept.parts ≡ u.kept.parts ++ part ∷ []
  pub same_profile : after.profile.now ≡ u.profile.now
  pub same_place : after.place ≡ u.place

-- It is no part.
abbrev pub SaysNoPart : PacketState → Type 0
SaysNoPart u = (written : Written) → u.leg ≡ Some written → IsWriteBody written.device written.bytes → ⊥

-- ---- a leg that begins

-- A leg of the device of which nothing was taken is kept in place of another one.
pub record StartsLeg (device : DeviceParts) (u : PacketState) (after : PacketState) : Type 0 where
  pub leg : after.leg ≡ Some (record { device = device; place = place_of u.kept.parts; bytes = [] })
  pub same_kept : after.kept ≡ u.kept
  pub same_profile : after.profile.now ≡ u.profile.now
