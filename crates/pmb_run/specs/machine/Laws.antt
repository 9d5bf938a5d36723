-- What the layers below say of the lines of an input.
use Rattle.std.specs.Prelude.{◌≡◌, ℕ, Option, List, map}
use Rattle.pmb_bus.specs.declared.event.Event.{Event}
use Rattle.pmb_command.specs.Parts.{DeviceParts}
use Rattle.pmb_registers.specs.State.{InState}
use Rattle.pmb_transaction.specs.Packet.{Packet}
use Rattle.pmb_transaction.specs.Transaction.{TransactionData}
use Rattle.pmb_request.specs.Request.{RequestData}
use Rattle.pmb_request.specs.RequestFault.{IsRequestFault, SpellsRequest}
use Rattle.pmb_request.specs.declared.request_fault.RequestFault.{RequestFault}
use Rattle.pmb_value.specs.declared.number_format.NumberFormat.{NumberFormat}
use Rattle.pmb_host.specs.declared.step.HostFault.{HostFault}
use Rattle.pmb_host.specs.Rules.{IsAllowed, IsFault}
use Rattle.pmb_exchange.specs.Exchange.{Exchanges}

-- A line spells one request or has one fault, and a request comes to one thing or has one fault.
pub record RunLaws (profile : List DeviceParts) : Type 0 where
  pub one_request : (mode : ℕ → Option ℕ) (line : List ℕ) (a b : RequestData) → SpellsRequest mode line a
      → SpellsRequest mode line b → a ≡ b
  pub one_line_fault : (line : List ℕ) (a b : RequestFault) → IsRequestFault line a → IsRequestFault line b → a ≡ b
  pub no_line_fault : (mode : ℕ → Option ℕ) (line : List ℕ) (request : RequestData) (fault : RequestFault)
      → SpellsRequest mode line request
      → IsRequestFault line fault → ⊥
  pub one_host_fault : (request : RequestData) (a b : HostFault) → IsFault profile request a → IsFault profile request b
      → a ≡ b
  pub no_host_fault : (request : RequestData) (word : ℕ) (number : Option NumberFormat) (fault : HostFault)
      → IsAllowed profile request word number
      → IsFault profile request fault → ⊥
  pub one_exchange : (members : List InState) (task a b : TransactionData) → map (λ m. m.device) members ≡ profile
      → Exchanges members task a
      → Exchanges members task b → a ≡ b
  pub one_packet : (t : TransactionData) (a b : List Event) → Packet profile t a → Packet profile t b → a ≡ b
