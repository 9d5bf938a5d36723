-- The parts of a group, one by one, and what ends it.
use Rattle.std.specs.Prelude.{◌≡◌, ◌≤◌, ◌<◌, ℕ, ◌+◌, ◌⊎◌, Bool, List, [], ◌∷◌, ◌++◌, length, nat_eq}
use Rattle.std.specs.List.{IsDistinct}
use Rattle.pmb_bus.specs.declared.event.Event.{Event}
use Rattle.pmb_bus.specs.declared.event.Event.TheVariants.{Stop}
use Rattle.pmb_bus.specs.Event.{AreBytes, canonical_text}
use Rattle.pmb_command.specs.Parts.{DeviceParts, IsNew}
use Rattle.pmb_command.specs.Wire.{AreByteValues}
use Rattle.pmb_transaction.specs.Transaction.{PartData}
use Rattle.pmb_transaction.specs.Packet.{PartsEvents, addresses, leg}
use Rattle.pmb_canonical.specs.Canonical.{OneWritten, nacked_leg}
use Rattle.pmb_canonical.specs.Nacked.{SaysNacked}

-- what a written leg with these bytes says
abbrev pub SaysPart : List DeviceParts → List ℕ → Type 0
SaysPart profile bytes = (address : ℕ) × (code : ℕ) × (data_bytes : List ℕ) × (with_pec : Bool)
    × OneWritten profile address code data_bytes with_pec bytes

-- The part of a written leg with these bytes was put after others, to other devices.
pub record AddsPart (profile : List DeviceParts) (old : List PartData) (new : List PartData)
    (bytes : List ℕ) : Type 0 where
  pub part : PartData
  pub added : new ≡ old ++ part ∷ []
  pub says : OneWritten profile part.addr part.code part.bytes part.pec bytes
  pub other : IsNew part.addr (addresses old)
  pub room : length old < 16

-- Parts were taken from the front of a text: so many events, with STOP.
pub record TakenParts (profile : List DeviceParts) (text : List ℕ) (parts : List PartData) (count : ℕ)
    (behind : List ℕ) : Type 0 where
  pub legs : List Event
  pub each : PartsEvents profile parts legs
  pub distinct : IsDistinct nat_eq (addresses parts)
  pub few : length parts ≤ 16
  pub split : text ≡ canonical_text legs ++ behind
  pub counted : count ≡ length legs + 1

-- After parts to devices with these addresses something is refused in a leg with these events, up to
-- STOP.
pub record RefusedAfter (profile : List DeviceParts) (before : List ℕ) (events : List Event) : Type 0 where
  pub parts : List PartData
  pub same : addresses parts ≡ before
  pub bytes : List ℕ
  pub small : AreByteValues bytes
  pub some : 1 ≤ length bytes
  pub few : length bytes ≤ 516
  pub says : SaysNacked profile parts bytes
  pub spelled : events ≡ nacked_leg bytes ++ Stop ∷ []

-- A group ends with STOP alone, or with such a leg.
abbrev pub EndsGroup : List DeviceParts → List ℕ → List Event → Type 0
EndsGroup profile before events = (events ≡ Stop ∷ []) ⊎ RefusedAfter profile before events

-- The other parts of a group stand at the front of a text, and what ends it; the parts before them had
-- these addresses.
pub record MoreParts (profile : List DeviceParts) (taken : List ℕ) (text : List ℕ) : Type 0 where
  pub parts : List PartData
  pub legs : List Event
  pub each : PartsEvents profile parts legs
  pub distinct : IsDistinct nat_eq (taken ++ addresses parts)
  pub few : length taken + length parts ≤ 16
  pub small : AreBytes legs
  pub last : List Event
  pub ends : EndsGroup profile (taken ++ addresses parts) last
  pub rest : List ℕ
  pub split : text ≡ canonical_text (legs ++ last) ++ rest

-- A group stands at the front of a text: these are the bytes of its first leg.
pub record SayGroup (profile : List DeviceParts) (text : List ℕ) (bytes : List ℕ) : Type 0 where
  pub first : PartData
  pub says : OneWritten profile first.addr first.code first.bytes first.pec bytes
  pub behind : List ℕ
  pub split : text ≡ canonical_text (leg bytes) ++ behind
  pub more : MoreParts profile (first.addr ∷ []) behind
