-- A leg in which something is refused, after the parts of a group or without any: its last byte has
-- NACK.
use Rattle.std.specs.Prelude.{◌≡◌, ◌≤◌, ◌<◌, ℕ, ◌⊎◌, false, List, [], ◌∷◌, length}
use Rattle.pmb_bus.specs.Address.{write_address}
use Rattle.pmb_command.specs.Parts.{DeviceParts, IsNew}
use Rattle.pmb_transaction.specs.Transaction.{PartData, TransactionData, Refused}
use Rattle.pmb_transaction.specs.Packet.{RefusedLeg, addresses}
use Rattle.pmb_canonical.specs.Canonical.{OneByteRefused, nacked_leg}

-- What is refused in a leg with these bytes: its address, or the last one of the bytes sent.
abbrev pub IsRefused : List DeviceParts → List PartData → ℕ → List ℕ → Type 0
IsRefused profile parts address bytes =
    ((address < 128) × (bytes ≡ write_address address ∷ []))
    ⊎ ((sent : List ℕ) × OneByteRefused profile address sent bytes parts)

-- What a leg with these bytes says after some parts, to another device.
pub record SaysNacked (profile : List DeviceParts) (parts : List PartData) (bytes : List ℕ) : Type 0 where
  pub address : ℕ
  pub few : length parts ≤ 15
  pub another : IsNew address (addresses parts)
  pub refused : IsRefused profile parts address bytes

-- The transaction is that of some parts and of a leg with these bytes after them, the last one refused.
pub record IsOfNacked (profile : List DeviceParts) (parts : List PartData) (bytes : List ℕ)
    (t : TransactionData) : Type 0 where
  pub address : ℕ
  pub sent : List ℕ
  pub is : t ≡ Refused (record { parts = parts; addr = address; sent = sent; at_read = false })
  pub few : length parts ≤ 15
  pub another : IsNew address (addresses parts)
  pub refused : RefusedLeg profile parts address sent false (nacked_leg bytes)
