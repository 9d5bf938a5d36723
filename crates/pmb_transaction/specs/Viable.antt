-- The beginnings of packets, by what stands in them: a list of events that is not empty is viable
-- exactly where it is one of these.
use Rattle.std.specs.Prelude.{◌≡◌, ℕ, ◌<◌, ◌≤◌, Bool, Some, List, [], ◌∷◌, ◌++◌, length, nat_eq}
use Rattle.std.specs.List.{IsDistinct}
use Rattle.pmb_bus.specs.declared.event.Event.{Event}
use Rattle.pmb_bus.specs.declared.event.Event.TheVariants.{Start, Byte, Stop}
use Rattle.pmb_bus.specs.Address.{write_address, read_address, alert_address}
use Rattle.pmb_command.specs.declared.form.Form.{Form}
use Rattle.pmb_command.specs.Parts.{DeviceParts, IsNew, device_with}
use Rattle.pmb_command.specs.PecMode.{AllowsPec}
use Rattle.pmb_command.specs.Wire.{IsByte, Fits, wire}
use Rattle.pmb_transaction.specs.Transaction.{PartData}
use Rattle.pmb_transaction.specs.Body.{checked, IsProperPrefix, IsFormOfRequest, IsRequest}
pub use Rattle.pmb_transaction.specs.Body.{BeginsBody, IsInsideBody}
use Rattle.pmb_transaction.specs.Packet.{leg, addresses, PartsEvents}
use Rattle.pmb_transaction.specs.Capture.{IsPacket}

-- ---- answers

-- The bytes with which a device answers a body that asks say a reply in the form for which it asks,
-- and with the packet error code where there is one.
pub record SaysAnswer (device : DeviceParts) (addr : ℕ) (body : List ℕ) (reply : List ℕ) (with_pec : Bool)
    (bytes : List ℕ) : Type 0 where
  pub form : Form
  pub asked : IsFormOfRequest device form body
  pub fits : Fits form reply
  pub mode : AllowsPec device.pec with_pec
  pub spelled : bytes ≡ checked with_pec (write_address addr ∷ body ++ read_address addr ∷ []) (wire form reply)

-- and they say some reply
abbrev pub IsAnswer : DeviceParts → ℕ → List ℕ → List ℕ → Type 0
IsAnswer device addr body bytes = (reply : List ℕ) × (with_pec : Bool)
    × SaysAnswer device addr body reply with_pec bytes

-- ---- legs that are read

-- The beginning of a leg in which an answer is read, once its address byte was taken. The last byte
-- of the answer is still to come, or NACK after it.
pub data AnswerBegins (address : ℕ) (answer : List ℕ) (events : List Event) : Type 0 where
  -- S addr+R A bytes A ..
  answer_taken : (bytes : List ℕ) → IsProperPrefix bytes answer → events ≡ leg (address ∷ bytes)
      → AnswerBegins address answer events
  -- S addr+R A bytes A .. byte
  answer_sent : (bytes : List ℕ) → (byte : ℕ) → (rest : List ℕ) → answer ≡ bytes ++ byte ∷ rest
      → events ≡ leg (address ∷ bytes) ++ Byte byte ∷ []
      → AnswerBegins address answer events

-- The beginning of the leg at the Alert Response Address.
pub data AlertBegins (events : List Event) : Type 0 where
  -- S 19
  at_alert : events ≡ Start ∷ Byte (read_address alert_address) ∷ [] → AlertBegins events
  -- S 19 A ..
  alert_answer : (byte : ℕ) → (with_pec : Bool) → IsByte byte
      → AnswerBegins (read_address alert_address) (checked with_pec (read_address alert_address ∷ []) (byte ∷ []))
      events → AlertBegins events

module _ (profile : List DeviceParts) where
  -- What begins after the leg of a read body or a call body.
  pub data ReadBegins (events : List Event) : Type 0 where
    -- S addr+W A body A .. S
    read_start : (addr : ℕ) → (device : DeviceParts) → (body : List ℕ) → device_with addr profile ≡ Some device
        → IsRequest device body → events ≡ leg (write_address addr ∷ body) ++ Start ∷ [] → ReadBegins events
    -- S addr+W A body A .. S addr+R
    read_address_sent : (addr : ℕ) → (device : DeviceParts) → (body : List ℕ) → device_with addr profile ≡ Some device
        → IsRequest device body → events ≡ leg (write_address addr ∷ body) ++ Start ∷ Byte (read_address addr) ∷ []
        → ReadBegins events
    -- S addr+W A body A .. S addr+R A ..
    read_answer : (addr : ℕ) → (device : DeviceParts) → (body : List ℕ) → (answer : List ℕ) → (last : List Event)
        → device_with addr profile ≡ Some device → IsAnswer device addr body answer
        → AnswerBegins (read_address addr) answer last
        → events ≡ leg (write_address addr ∷ body) ++ last → ReadBegins events

  -- ---- legs that are written

  -- The beginning of a written leg after some parts.
  pub data LegBegins (parts : List PartData) (events : List Event) : Type 0 where
    -- S
    leg_start : events ≡ Start ∷ [] → LegBegins parts events
    -- S addr+W
    leg_address : (addr : ℕ) → addr < 128 → IsNew addr (addresses parts) → events ≡ Start ∷ Byte (write_address addr)
        ∷ [] → LegBegins parts events
    -- S addr+W A bytes A ..
    leg_taken : (addr : ℕ) → (device : DeviceParts) → (bytes : List ℕ) → IsNew addr (addresses parts)
        → device_with addr profile ≡ Some device
        → BeginsBody device parts bytes → events ≡ leg (write_address addr ∷ bytes) → LegBegins parts events
    -- S addr+W A bytes A .. byte
    leg_sent : (addr : ℕ) → (device : DeviceParts) → (bytes : List ℕ) → (byte : ℕ) → IsNew addr (addresses parts)
        → device_with addr profile ≡ Some device
        → IsInsideBody device parts bytes → IsByte byte → events ≡ leg (write_address addr ∷ bytes) ++ Byte byte ∷ []
        → LegBegins parts events

  -- Up to 15 complete parts, and the beginning of one more leg.
  pub record PartsAndLeg (events : List Event) : Type 0 where
    pub parts : List PartData
    pub few : length parts ≤ 15
    pub distinct : IsDistinct nat_eq (addresses parts)
    pub legs : List Event
    pub each : PartsEvents profile parts legs
    pub last : List Event
    pub begins : LegBegins parts last
    pub spelled : events ≡ legs ++ last

  -- The beginnings of packets: a packet with or without its STOP, or what ends inside a leg or
  -- after one that is written.
  pub data IsBeginning (events : List Event) : Type 0 where
    whole : IsPacket profile events → IsBeginning events
    before_stop : IsPacket profile (events ++ Stop ∷ []) → IsBeginning events
    written : PartsAndLeg events → IsBeginning events
    read : ReadBegins events → IsBeginning events
    alert : AlertBegins events → IsBeginning events
