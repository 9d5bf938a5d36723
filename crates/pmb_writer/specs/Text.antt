-- A packet's canonical text.
use Rattle.std.specs.Prelude.{◌≡◌, ℕ, ◌+◌, ◌*◌, List, ◌++◌, length}
use Rattle.pmb_bus.specs.Event.{canonical_text}
use Rattle.pmb_bus.specs.declared.event.Event.{Event}
use Rattle.pmb_command.specs.Parts.{DeviceParts}
use Rattle.pmb_transaction.specs.Packet.{Packet}
use Rattle.pmb_transaction.specs.Transaction.{TransactionData, Write, Read, Call, Refused, Alert, NoAlert}

-- The canonical text of a transaction's packet was appended.
pub record AppendsPacket (profile : List DeviceParts) (t : TransactionData) (old new : List ℕ) : Type 0 where
  pub events : List Event
  pub packet : Packet profile t events
  pub appended : new ≡ old ++ canonical_text events

-- how many legs the packet has
abbrev pub leg_count : TransactionData → ℕ
leg_count (Write parts) = length parts
leg_count (Read t) = 2
leg_count (Call t) = 2
leg_count (Refused t) = length t.parts + 2
leg_count (Alert t) = 1
leg_count NoAlert = 1

-- how many bytes its text has at most: three for each START, byte and STOP, two for each ACK
abbrev pub most_text : TransactionData → ℕ
most_text t = 1314 * leg_count t + 3
