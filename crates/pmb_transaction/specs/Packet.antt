-- The packet of a transaction: its events on the bus, from the first START to STOP.
--
-- The drawings are those of SMBus 3.0 section 6.5: S is START, P is STOP, A is ACK, N is NACK, and
-- what stands between them is a byte; addr+W and addr+R are the address bytes for writing and for
-- reading. In brackets stands what may be left out, and what stands before `..` comes any number of
-- times, or not at all.
use Rattle.std.specs.Prelude.{◌≡◌, ℕ, ◌<◌, ◌≤◌, Bool, true, false, Some, List, [], ◌∷◌, ◌++◌, length, map, nat_eq}
use Rattle.std.specs.List.{IsDistinct}
use Rattle.pmb_bus.specs.declared.event.Event.{Event}
use Rattle.pmb_bus.specs.declared.event.Event.TheVariants.{Start, Byte, Ack, Nack, Stop}
use Rattle.pmb_bus.specs.Address.{write_address, read_address, alert_address}
use Rattle.pmb_command.specs.declared.form.Form.{Form}
use Rattle.pmb_command.specs.Parts.{DeviceParts, IsNew, device_with}
use Rattle.pmb_command.specs.PecMode.{AllowsPec}
use Rattle.pmb_command.specs.Wire.{IsByte, AreByteValues, Fits, wire}
use Rattle.pmb_transaction.specs.Transaction.{PartData, ReadData, CallData, RefusedData, AlertData, TransactionData}
use Rattle.pmb_transaction.specs.Transaction.{Write, Read, Call, Refused, Alert, NoAlert}
use Rattle.pmb_transaction.specs.Body.{forms, checked, WriteBody, IsRequest, IsInsideBody}

-- each byte, followed by ACK
abbrev pub acked : List ℕ → List Event
acked [] = []
acked (b ∷ bytes) = Byte b ∷ Ack ∷ acked bytes

-- each byte, followed by ACK but for the last, which NACK follows
abbrev pub nacked : List ℕ → List Event
nacked [] = []
nacked (b ∷ []) = Byte b ∷ Nack ∷ []
nacked (b ∷ c ∷ bytes) = Byte b ∷ Ack ∷ nacked (c ∷ bytes)

-- a leg in which each byte was taken: START, then each byte followed by ACK
abbrev pub leg : List ℕ → List Event
leg bytes = Start ∷ acked bytes

-- the addresses of parts, which are distinct in a packet
abbrev pub addresses : List PartData → List ℕ
addresses parts = map (λ part. part.addr) parts

-- A written leg, the leg of the reply, and STOP. The packet error code covers the bytes of both.
--
-- S addr+W A body A .. S addr+R A reply A .. reply N P
-- S addr+W A body A .. S addr+R A reply A .. reply A pec N P
abbrev pub answered : ℕ → List ℕ → List ℕ → Bool → List Event
answered addr body reply with_pec =
    leg (write_address addr ∷ body)
    ++ (leg (read_address addr ∷ []) ++ nacked
    (checked with_pec (write_address addr ∷ body ++ read_address addr ∷ []) reply))
    ++ Stop ∷ []

module _ (profile : List DeviceParts) where
  -- The events of a part: the leg of a known device, with a write body.
  --
  -- S addr+W A code A data A .. [pec A]
  pub record PartEvents (part : PartData) (events : List Event) : Type 0 where
    pub device : DeviceParts
    pub body : List ℕ
    pub known : device_with part.addr profile ≡ Some device
    pub allowed : WriteBody device part.code part.bytes part.pec body
    pub spelled : events ≡ leg (write_address part.addr ∷ body)

  -- those of parts, in order
  abbrev pub PartsEvents : List PartData → List Event → Type 0
  PartsEvents [] events = events ≡ []
  PartsEvents (part ∷ parts) events =
      (first : List Event) × (rest : List Event) × (events ≡ first ++ rest) × PartEvents part first
      × PartsEvents parts rest

  -- A write, to one device or to a group of up to 16, each with its own packet error code. The
  -- devices act at the STOP (PMBus Part I section 5.2.3).
  --
  -- S addr+W A code A data A .. [pec A] [S addr+W A code A data A .. [pec A]] .. P
  pub record WritePacket (parts : List PartData) (events : List Event) : Type 0 where
    pub some : 1 ≤ length parts
    pub few : length parts ≤ 16
    pub distinct : IsDistinct nat_eq (addresses parts)
    pub legs : List Event
    pub each : PartsEvents parts legs
    pub spelled : events ≡ legs ++ Stop ∷ []

  -- A read.
  --
  -- S addr+W A code A S addr+R A reply A .. reply N P
  -- S addr+W A code A S addr+R A reply A .. reply A pec N P
  pub record ReadPacket (t : ReadData) (events : List Event) : Type 0 where
    pub device : DeviceParts
    pub form : Form
    pub known : device_with t.addr profile ≡ Some device
    pub read : (forms device t.code).read ≡ Some form
    pub fits : Fits form t.reply
    pub mode : AllowsPec device.pec t.pec
    pub spelled : events ≡ answered t.addr (t.code ∷ []) (wire form t.reply) t.pec

  -- A call, which replies in the form in which it is sent.
  --
  -- S addr+W A code A data A .. S addr+R A reply A .. reply N P
  -- S addr+W A code A data A .. S addr+R A reply A .. reply A pec N P
  pub record CallPacket (t : CallData) (events : List Event) : Type 0 where
    pub device : DeviceParts
    pub form : Form
    pub known : device_with t.addr profile ≡ Some device
    pub called : (forms device t.code).call ≡ Some form
    pub sent : Fits form t.bytes
    pub replied : Fits form t.reply
    pub mode : AllowsPec device.pec t.pec
    pub spelled : events ≡ answered t.addr (t.code ∷ wire form t.bytes) (wire form t.reply) t.pec

  -- An address of seven bits that is refused, of a device or of none.
  --
  -- S addr+W N
  pub record AddressRefused (addr : ℕ) (events : List Event) : Type 0 where
    pub seven : addr < 128
    pub spelled : events ≡ Start ∷ Byte (write_address addr) ∷ Nack ∷ []

  -- Bytes sent to a known device after some parts. It refused the last of the bytes, whatever its
  -- value: that is the only one, or a body that is allowed there begins with those before it and goes
  -- on.
  --
  -- S addr+W A sent A .. sent N
  pub record ByteRefused (parts : List PartData) (addr : ℕ) (sent : List ℕ) (events : List Event) : Type 0 where
    pub device : DeviceParts
    pub known : device_with addr profile ≡ Some device
    pub bytes : AreByteValues sent
    pub front : List ℕ
    pub last : ℕ
    pub split : sent ≡ front ++ last ∷ []
    pub begins : IsInsideBody device parts front
    pub spelled : events ≡ leg (write_address addr ∷ []) ++ nacked sent

  -- A known device that is sent a read body or a call body, and then refuses to be read.
  --
  -- S addr+W A sent A .. S addr+R N
  pub record ReadRefused (parts : List PartData) (addr : ℕ) (sent : List ℕ) (events : List Event) : Type 0 where
    pub alone : parts ≡ []
    pub device : DeviceParts
    pub known : device_with addr profile ≡ Some device
    pub body : IsRequest device sent
    pub spelled : events ≡ leg (write_address addr ∷ sent) ++ Start ∷ Byte (read_address addr) ∷ Nack ∷ []

  -- what is refused, by what was sent and whether reading was refused
  abbrev pub RefusedLeg : List PartData → ℕ → List ℕ → Bool → List Event → Type 0
  RefusedLeg parts addr [] false events = AddressRefused addr events
  RefusedLeg parts addr (b ∷ bytes) false events = ByteRefused parts addr (b ∷ bytes) events
  RefusedLeg parts addr sent true events = ReadRefused parts addr sent events

  -- A refused packet: up to 15 complete parts of a group, and a leg to another address in which
  -- NACK was answered; to its address byte also where no device has that address.
  --
  -- [S addr+W A code A data A .. [pec A]] .. and one of
  --     S addr+W N P
  --     S addr+W A sent A .. sent N P
  --     S addr+W A sent A .. S addr+R N P
  pub record RefusedPacket (t : RefusedData) (events : List Event) : Type 0 where
    pub few : length t.parts ≤ 15
    pub distinct : IsDistinct nat_eq (addresses t.parts)
    pub another : IsNew t.addr (addresses t.parts)
    pub legs : List Event
    pub each : PartsEvents t.parts legs
    pub last : List Event
    pub refused : RefusedLeg t.parts t.addr t.sent t.at_read last
    pub spelled : events ≡ legs ++ last ++ Stop ∷ []

-- The answer of a device at the Alert Response Address: any byte, with or without a packet error
-- code, whatever device it names. The code covers this one leg.
--
-- S 19 A byte N P
-- S 19 A byte A pec N P
pub record AlertPacket (t : AlertData) (events : List Event) : Type 0 where
  pub byte : IsByte t.byte
  pub spelled : events ≡ leg (read_address alert_address ∷ [])
      ++ nacked (checked t.pec (read_address alert_address ∷ []) (t.byte ∷ [])) ++ Stop ∷ []

-- No device answers there.
--
-- S 19 N P
abbrev pub NoAlertPacket : List Event → Type 0
NoAlertPacket events = events ≡ Start ∷ Byte (read_address alert_address) ∷ Nack ∷ Stop ∷ []

-- The events that are the packet of a transaction under a profile.
abbrev pub Packet : List DeviceParts → TransactionData → List Event → Type 0
Packet profile (Write parts) events = WritePacket profile parts events
Packet profile (Read t) events = ReadPacket profile t events
Packet profile (Call t) events = CallPacket profile t events
Packet profile (Refused t) events = RefusedPacket profile t events
Packet profile (Alert t) events = AlertPacket t events
Packet profile NoAlert events = NoAlertPacket events
