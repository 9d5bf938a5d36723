-- What it means that a packet is taken at once from a text.
use Rattle.std.specs.Prelude.{◌≡◌, ℕ, ◌+◌, Bool, true, false, Some, List, [], ◌∷◌, ◌++◌, length, take, drop}
use Rattle.pmb_bus.specs.declared.event.Event.{Event}
use Rattle.pmb_bus.specs.declared.event.Event.TheVariants.{Start, Stop}
use Rattle.pmb_bus.specs.Address.{write_address, read_address}
use Rattle.pmb_bus.specs.Event.{canonical_text}
use Rattle.pmb_command.specs.declared.form.Form.{Form}
use Rattle.pmb_command.specs.Parts.{DeviceParts, device_with}
use Rattle.pmb_command.specs.PecMode.{AllowsPec}
use Rattle.pmb_command.specs.Wire.{Fits, wire}
use Rattle.pmb_transaction.specs.Transaction.{PartData, ReadData, CallData, AlertData, TransactionData, Write, Read}
use Rattle.pmb_transaction.specs.Transaction.{Call, Refused, Alert, NoAlert}
use Rattle.pmb_transaction.specs.Body.{forms, checked, WriteBody, IsInsideBody, IsRequest}
use Rattle.pmb_transaction.specs.Packet.{Packet, leg, nacked}

-- A text begins with the canonical text of a packet: that many bytes, and that many events. Each
-- packet can stand there.
pub record TakesPacket (profile : List DeviceParts) (text : List ℕ) (used : ℕ) (count : ℕ)
    (t : TransactionData) : Type 0 where
  pub events : List Event
  pub packet : Packet profile t events
  pub rest : List ℕ
  pub split : text ≡ canonical_text events ++ rest
  pub bytes : used ≡ length (canonical_text events)
  pub all : count ≡ length events

-- a text begins with the canonical text of some packet
abbrev pub BeginsWithPacket : List DeviceParts → List ℕ → Type 0
BeginsWithPacket profile text = (used : ℕ) × (count : ℕ) × (t : TransactionData) × TakesPacket profile text used count t

-- ---- the bytes of a packet, its address bytes too

-- a leg in which NACK follows the last byte
abbrev pub nacked_leg : List ℕ → List Event
nacked_leg bytes = Start ∷ nacked bytes

-- The events of two legs, so many bytes in the first and the others in the second: its last one, be
-- it the address byte itself, has NACK.
abbrev pub read_events : ℕ → List ℕ → List Event
read_events written bytes = leg (take written bytes) ++ nacked_leg (drop written bytes) ++ Stop ∷ []

module _ (profile : List DeviceParts) (address : ℕ) (code : ℕ) (bytes : List ℕ) (with_pec : Bool) (all : List ℕ) where
  -- those of a written leg
  pub record OneWritten : Type 0 where
    pub device : DeviceParts
    pub body : List ℕ
    pub known : device_with address profile ≡ Some device
    pub allowed : WriteBody device code bytes with_pec body
    pub spelled : all ≡ write_address address ∷ body

  -- those of both legs of a read
  pub record OneRead : Type 0 where
    pub device : DeviceParts
    pub form : Form
    pub known : device_with address profile ≡ Some device
    pub read : (forms device code).read ≡ Some form
    pub fits : Fits form bytes
    pub mode : AllowsPec device.pec with_pec
    pub spelled : all ≡ write_address address ∷ code ∷ read_address address
        ∷ checked with_pec (write_address address ∷ code ∷ read_address address ∷ []) (wire form bytes)

  -- those of both legs of a call, which sends data; the first leg has `written` bytes
  pub record OneCalled (sent : List ℕ) (written : ℕ) : Type 0 where
    pub device : DeviceParts
    pub form : Form
    pub known : device_with address profile ≡ Some device
    pub called : (forms device code).call ≡ Some form
    pub sends : Fits form sent
    pub fits : Fits form bytes
    pub mode : AllowsPec device.pec with_pec
    pub first : written ≡ 2 + length (wire form sent)
    pub spelled : all ≡ write_address address ∷ code ∷ wire form sent ++ read_address address
        ∷ checked with_pec (write_address address ∷ code ∷ wire form sent ++ read_address address ∷ [])
        (wire form bytes)

-- ---- those of a packet in which something is refused

module _ (profile : List DeviceParts) (address : ℕ) (sent : List ℕ) (all : List ℕ) where
  -- those of a leg after some parts, where the last byte sent is refused
  pub record OneByteRefused (parts : List PartData) : Type 0 where
    pub device : DeviceParts
    pub known : device_with address profile ≡ Some device
    pub front : List ℕ
    pub last : ℕ
    pub split : sent ≡ front ++ last ∷ []
    pub begins : IsInsideBody device parts front
    pub spelled : all ≡ write_address address ∷ sent

  -- Those of both legs, where to be read is refused; the first leg has `written` bytes.
  pub record OneReadRefused (written : ℕ) : Type 0 where
    pub device : DeviceParts
    pub known : device_with address profile ≡ Some device
    pub body : IsRequest device sent
    pub first : written ≡ 1 + length sent
    pub spelled : all ≡ write_address address ∷ sent ++ read_address address ∷ []
