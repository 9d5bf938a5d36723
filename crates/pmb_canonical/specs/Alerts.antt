-- What is said at the Alert Response Address, by the bytes of a leg of which the last one has NACK.
use Rattle.std.specs.Prelude.{◌≡◌, ℕ, ◌⊎◌, List, [], ◌∷◌}
use Rattle.pmb_bus.specs.Address.{read_address, alert_address}
use Rattle.pmb_command.specs.Wire.{IsByte}
use Rattle.pmb_transaction.specs.Transaction.{AlertData, TransactionData, Alert, NoAlert}
use Rattle.pmb_transaction.specs.Body.{checked}

-- the bytes of a device's answer, with or without a packet error code
abbrev pub alert_bytes : AlertData → List ℕ
alert_bytes t = read_address alert_address ∷ checked t.pec (read_address alert_address ∷ []) (t.byte ∷ [])

-- A device answers, or none does.
abbrev pub SaysAlert : List ℕ → TransactionData → Type 0
SaysAlert bytes t =
    ((answer : AlertData) × IsByte answer.byte × (t ≡ Alert answer) × (bytes ≡ alert_bytes answer))
    ⊎ ((t ≡ NoAlert) × (bytes ≡ read_address alert_address ∷ []))
