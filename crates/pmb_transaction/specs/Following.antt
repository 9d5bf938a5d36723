-- What may follow at some places of a packet: the address after a START, a leg after a written
-- one, and the bytes of an answer.
use Rattle.std.specs.Prelude.{◌≡◌, ℕ, ◌<◌, Bool, List, [], ◌∷◌, ◌++◌, length}
use Rattle.pmb_bus.specs.Address.{write_address, read_address, alert_address}
use Rattle.pmb_command.specs.Parts.{DeviceParts, IsNew}
use Rattle.pmb_command.specs.Wire.{IsByte}
use Rattle.pmb_transaction.specs.Transaction.{PartData}
use Rattle.pmb_transaction.specs.Body.{checked, IsProperPrefix, IsWriteBody, IsRequest}
use Rattle.pmb_transaction.specs.Packet.{addresses}

-- ---- addresses

-- The first byte of a packet.
pub data IsFirstAddress (byte : ℕ) : Type 0 where
  -- S addr+W
  written_first : (addr : ℕ) → addr < 128 → byte ≡ write_address addr → IsFirstAddress byte
  -- S 19
  alert_first : byte ≡ read_address alert_address → IsFirstAddress byte

-- The byte that may follow the START after some complete parts and a leg in which bytes were
-- written to a device.
pub data IsNextAddress (device : DeviceParts) (parts : List PartData) (addr : ℕ) (bytes : List ℕ)
    (byte : ℕ) : Type 0 where
  -- The leg was one more part, and a leg to another address begins.
  --
  -- S addr+W A body A .. S other+W
  next_leg : (other : ℕ) → IsWriteBody device bytes → length parts < 15 → other < 128
      → IsNew other (addr ∷ addresses parts)
      → byte ≡ write_address other → IsNextAddress device parts addr bytes byte
  -- The device was asked, in the packet's first leg, and is read.
  --
  -- S addr+W A body A .. S addr+R
  reply_leg : parts ≡ [] → IsRequest device bytes → byte ≡ read_address addr
      → IsNextAddress device parts addr bytes byte

-- Why START may follow there.
pub data LegMayFollow (device : DeviceParts) (parts : List PartData) (bytes : List ℕ) : Type 0 where
  -- the leg was one more part, and they are fewer than 16
  leg_of_group : IsWriteBody device bytes → length parts < 15 → LegMayFollow device parts bytes
  -- the device was asked, in the packet's first leg
  leg_of_reply : parts ≡ [] → IsRequest device bytes → LegMayFollow device parts bytes

-- ---- answers

-- The bytes of an answer at the Alert Response Address: any byte, and the packet error code where
-- there is one.
pub record IsAlertAnswer (bytes : List ℕ) : Type 0 where
  pub byte : ℕ
  pub small : IsByte byte
  pub with_pec : Bool
  pub spelled : bytes ≡ checked with_pec (read_address alert_address ∷ []) (byte ∷ [])

-- bytes with which an answer of some sort begins: none of it, or some, or all
abbrev pub BeginsAnswer : (List ℕ → Type 0) → List ℕ → Type 0
BeginsAnswer Answers bytes = (answer : List ℕ) × (rest : List ℕ) × Answers answer × (answer ≡ bytes ++ rest)

-- and that are not all of it
abbrev pub IsInsideAnswer : (List ℕ → Type 0) → List ℕ → Type 0
IsInsideAnswer Answers bytes = (answer : List ℕ) × Answers answer × IsProperPrefix bytes answer
