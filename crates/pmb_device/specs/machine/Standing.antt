-- What an exchange keeps of the signals since the last STOP.
use Rattle.std.specs.Prelude.{◌≡◌, ℕ, ◌≤◌, ◌⊎◌, Bool, true, false, Option, None, Ok, List, [], ◌∷◌, ◌++◌, length}
use Rattle.pmb_command.specs.Parts.{DeviceParts}
use Rattle.pmb_command.specs.Bus.{IsDevice}
use Rattle.pmb_bus.specs.Address.{write_address, read_address}
use Rattle.pmb_transaction.specs.Body.{IsWriteBody, WriteBody}
use Rattle.pmb_transaction.specs.Reason.{Whether}
use Rattle.pmb_transaction.specs.Transaction.{PartData}
use Rattle.pmb_leg.specs.declared.place.LegPlace.{LegPlace}
use Rattle.pmb_leg.specs.declared.place.LegPlace.TheVariants.{First, Later}
use Rattle.pmb_leg.specs.Leg.{Written, IsRequest}
use Rattle.pmb_registers.specs.declared.cml_bit.CmlBit.{CmlBit}
use Rattle.pmb_registers.specs.State.{DeviceState}
use Rattle.pmb_registers.specs.Answer.{answer}
use Rattle.pmb_registers.specs.Apply.{bit_of_answer, with_noted}
use Rattle.pmb_device.specs.declared.device_packet.LegPhase.{LegPhase}
use Rattle.pmb_device.specs.declared.device_packet.LegPhase.TheVariants as phases
use Rattle.pmb_device.specs.declared.device_packet.DevicePacket.{DevicePacket}
use Rattle.pmb_device.specs.Legs.{Leg, Legs, Outside, Inside, behind_address, is_to, leg_place, sent, some_is_to}
use Rattle.pmb_device.specs.Rules.{IsRead, IsReplyTo, IsWritten, TakesAll, given_behind, is_ended, waits_behind}
use Rattle.pmb_device.specs.Ends.{Refuses, TookPart}

-- ---- its own leg

-- What is kept of the device's own leg.
pub record Kept : Type 0 where
  pub own : Bool
  pub refused : Bool
  pub read : Bool
  pub noted : Option CmlBit
  pub leg : Written

abbrev pub kept : DevicePacket → Kept
kept x = record { own = x.own; refused = x.refused; read = x.read; noted = x.noted; leg = x.leg }

-- the first of some legs begins with this address byte
abbrev pub head_is_to : ℕ → List Leg → Bool
head_is_to address [] = false
head_is_to address (leg ∷ legs) = is_to address leg

-- the packet's first leg is the device's own, and one leg stands after it
abbrev pub is_behind_own : DeviceParts → List Leg → Bool
is_behind_own device [] = false
is_behind_own device (first ∷ []) = is_to (write_address device.address) first
is_behind_own device (first ∷ second ∷ more) = false

-- the leg that ends is the packet's first, and some leg of the packet is the device's own
abbrev pub is_own_first : LegPlace → Bool → Bool
is_own_first First own = own
is_own_first Later own = false

-- Where the device is read, its registers have to answer.
pub record IsAskable (x : DevicePacket) : Type 0 where
  pub behind_first : x.behind_first ≡ true
  pub not_refused : x.refused ≡ false
  pub first : x.leg.place ≡ First
  pub request : IsRequest x.leg.device x.leg.bytes

-- The device has to answer: it is asked in the packet's first leg, and is read directly after that.
pub record HasToAnswer (device : DeviceParts) (before : List Leg) (bytes : List ℕ) (behind : List Leg) : Type 0 where
  pub first : before ≡ []
  pub request : IsRequest device bytes
  pub read : head_is_to (read_address device.address) behind ≡ true

-- What is noted after an own leg in which all bytes were taken: why it does not answer.
pub data Notes (device : DeviceParts) (state : DeviceState) (noted : Option CmlBit) (before : List Leg) (bytes : List ℕ)
    (behind : List Leg) : Type 0 where
  answers : HasToAnswer device before bytes behind → noted ≡ bit_of_answer (answer device state bytes)
      → Notes device state noted before bytes behind
  no_answer : (HasToAnswer device before bytes behind → ⊥) → noted ≡ None → Notes device state noted before bytes behind

-- All bytes of the own leg were taken, or one was refused.
pub record AllTaken (device : DeviceParts) (state : DeviceState) (k : Kept) (before : List Leg) (bytes : List ℕ)
    (behind : List Leg) : Type 0 where
  pub leg_is : k.leg ≡ record { device = device; place = leg_place before; bytes = bytes }
  pub taken : TakesAll device (leg_place before) [] bytes
  pub notes : Notes device state k.noted before bytes behind

abbrev pub BytesAre : Bool → DeviceParts → DeviceState → Kept → List Leg → List ℕ → List Leg → Type 0
BytesAre false device state k before bytes behind = AllTaken device state k before bytes behind
BytesAre true device state k before bytes behind = Refuses device (leg_place before) bytes state
    (with_noted device k.noted state)

-- This is the own leg, with the legs before and after it.
pub record IsOwn (device : DeviceParts) (state : DeviceState) (k : Kept) (before : List Leg) (own : Leg)
    (bytes : List ℕ) (behind : List Leg) : Type 0 where
  pub kept_own : k.own ≡ true
  pub first : some_is_to (write_address device.address) before ≡ false
  pub bytes_are : sent own ≡ write_address device.address ∷ bytes
  pub body : BytesAre k.refused device state k before bytes behind
  pub read : k.read ≡ some_is_to (read_address device.address) behind

-- Where the own leg is: there is none yet, it is under way, or it ended.
pub data OwnIsIn (device : DeviceParts) (state : DeviceState) (k : Kept) (earlier : List Leg) (leg : Leg) : Type 0 where
  none : k.own ≡ false → some_is_to (write_address device.address) earlier ≡ false
      → is_to (write_address device.address) leg ≡ false
      → OwnIsIn device state k earlier leg
  under_way : (bytes : List ℕ) → IsOwn device state k earlier leg bytes [] → OwnIsIn device state k earlier leg
  ended : (before : List Leg) (own : Leg) (mid : List Leg) (bytes : List ℕ) → earlier ≡ before ++ own ∷ mid
      → IsOwn device state k before own bytes (mid ++ leg ∷ []) → OwnIsIn device state k earlier leg

-- ---- the leg under way

-- Its first byte was sent.
pub record IsAddressed (device : DeviceParts) (state : DeviceState) (k : Kept) (earlier : List Leg)
    (leg : Leg) : Type 0 where
  pub address : ℕ
  pub bytes : List ℕ
  pub sent_is : sent leg ≡ address ∷ bytes
  pub own : OwnIsIn device state k earlier leg
  -- The device takes no bytes in it.
  pub no_bytes : Whether (IsWritten device earlier address) (TakesAll device (leg_place earlier) [] bytes → ⊥)
      (Unit {0})

-- A reply was put together for it.
pub record IsReplied (device : DeviceParts) (state : DeviceState) (reply : List ℕ) (earlier : List Leg)
    (leg : Leg) : Type 0 where
  pub address : ℕ
  pub bytes : List ℕ
  pub sent_is : sent leg ≡ address ∷ bytes
  pub body : List ℕ
  pub read : IsRead device earlier address body
  pub content : List ℕ
  pub answered : answer device state body ≡ Ok content
  pub spelled : IsReplyTo device body content reply

-- So many bytes of a reply were given, of which the last may wait; or all.
pub record Counts (device : DeviceParts) (given : ℕ) (waits : Bool) (signals : Leg) : Type 0 where
  pub given_is : given ≡ given_behind device false signals
  pub waits_is : waits ≡ waits_behind device false signals

abbrev pub HasGiven : DeviceParts → ℕ → ℕ → Bool → Leg → Type 0
HasGiven device most given waits signals =
    Counts device given waits signals ⊎ ((most ≤ given) × (most ≤ given_behind device false signals))

-- Nothing is replied: it is not read, it refuses, or the reply ended.
pub data IsMute (device : DeviceParts) (state : DeviceState) (earlier : List Leg) (leg : Leg) : Type 0 where
  no_reply : ((address : ℕ) (bytes : List ℕ) → sent leg ≡ address ∷ bytes → (body : List ℕ)
      → IsRead device earlier address body
      → (reply : List ℕ) → answer device state body ≡ Ok reply → ⊥) → IsMute device state earlier leg
  reply_ended : (reply : List ℕ) → IsReplied device state reply earlier leg → is_ended device (behind_address leg)
      ≡ true → IsMute device state earlier leg

-- ---- phases

-- After START.
pub record AtStart (device : DeviceParts) (state : DeviceState) (k : Kept) (behind_first : Bool) (earlier : List Leg)
    (leg : Leg) : Type 0 where
  pub nothing : sent leg ≡ []
  pub behind_own : behind_first ≡ is_behind_own device earlier
  pub own : OwnIsIn device state k earlier leg

-- In its own leg.
pub record InWritten (device : DeviceParts) (state : DeviceState) (k : Kept) (earlier : List Leg)
    (leg : Leg) : Type 0 where
  pub bytes : List ℕ
  pub own : IsOwn device state k earlier leg bytes []
  pub not_refused : k.refused ≡ false

-- In a leg in which it replies.
pub record InReply (device : DeviceParts) (state : DeviceState) (k : Kept) (reply : List ℕ) (given : ℕ) (waits : Bool)
    (earlier : List Leg) (leg : Leg) : Type 0 where
  pub addressed : IsAddressed device state k earlier leg
  pub replied : IsReplied device state reply earlier leg
  pub goes_on : is_ended device (behind_address leg) ≡ false
  pub count : HasGiven device (length reply) given waits (behind_address leg)

-- In one in which it is silent.
pub record InDeaf (device : DeviceParts) (state : DeviceState) (k : Kept) (earlier : List Leg)
    (leg : Leg) : Type 0 where
  pub addressed : IsAddressed device state k earlier leg
  pub mute : IsMute device state earlier leg

abbrev pub InLeg : LegPhase → DevicePacket → DeviceParts → DeviceState → List Leg → Leg → Type 0
InLeg phases.Outside x device state earlier leg = ⊥
InLeg phases.Deaf x device state earlier leg = InDeaf device state (kept x) earlier leg
InLeg phases.Reply x device state earlier leg = InReply device state (kept x) x.reply.items x.given x.waits earlier leg
InLeg phases.Start x device state earlier leg = AtStart device state (kept x) x.behind_first earlier leg
InLeg phases.Written x device state earlier leg = InWritten device state (kept x) earlier leg

abbrev pub IsBehind : DevicePacket → DeviceParts → DeviceState → Legs → Type 0
IsBehind x device state Outside = x.phase ≡ phases.Outside
IsBehind x device state (Inside earlier leg) = (x.place ≡ leg_place earlier) × InLeg x.phase x device state earlier leg

-- The exchange of this device stands after these legs, where the device's state since the last STOP
-- is this one.
pub record StandsIn (x : DevicePacket) (device : DeviceParts) (state : DeviceState) (legs : Legs) : Type 0 where
  pub known : x.device.now ≡ device
  pub accepted : IsDevice device
  pub behind : IsBehind x device state legs

-- ---- what it is asked

-- After these legs came this byte, and its registers have to answer this body.
pub record IsAskedIn (x : DevicePacket) (device : DeviceParts) (state : DeviceState) (legs : Legs) (byte : ℕ)
    (body : List ℕ) : Type 0 where
  pub known : x.device.now ≡ device
  pub accepted : IsDevice device
  pub earlier : List Leg
  pub leg : Leg
  pub legs_are : legs ≡ Inside earlier leg
  pub place : x.place ≡ leg_place earlier
  pub nothing : sent leg ≡ []
  pub is_read : IsRead device earlier byte body
  pub own : x.own ≡ true
  pub not_refused : x.refused ≡ false
  pub read : x.read ≡ true
  pub not_noted : x.noted ≡ None
  pub leg_is : x.leg ≡ record { device = device; place = First; bytes = body }
  pub taken : TakesAll device First [] body

-- ---- what it took

-- The bytes that it keeps are the body of a complete write, which the device took in these legs.
pub record KeepsWrite (x : DevicePacket) (device : DeviceParts) (legs : Legs) : Type 0 where
  pub device_is : x.leg.device ≡ device
  pub write : IsWriteBody device x.leg.bytes
  pub took : (part : PartData) → part.addr ≡ device.address
      → WriteBody device part.code part.bytes part.pec x.leg.bytes → TookPart device legs part
