-- A whole canonical packet that is taken at once. For `take_canonical`: it is a packet of the
-- profile that is kept, and where one is taken, one lies at the front of the text.
use Rattle.std.proofs.Common.{◌≡◌, ℕ, Option, Some, None, IsSome, IfSome, List, subst}
use Rattle.pmb_command.specs.Parts.{DeviceParts}
use Rattle.pmb_canonical.specs.declared.canonical_reader.TakenPacket.{TakenPacket}
use Rattle.pmb_canonical.specs.Canonical.{BeginsWithPacket, TakesPacket}
use Rattle.pmb_transaction.specs.Transaction.{TransactionData}

-- it is one of the profile
pub takes_of_profile : (given profile : List DeviceParts) (text : List ℕ) (t : TransactionData)
    (result : Option TakenPacket) → given ≡ profile
    → IfSome result (λ taken. TakesPacket given text taken.used taken.events t)
    → IfSome result (λ taken. TakesPacket profile text taken.used taken.events t)
takes_of_profile given profile text t result same takes =
    subst (λ (p : List DeviceParts). IfSome result (λ taken. TakesPacket p text taken.used taken.events t)) same takes

-- where one is taken, one lies there
pub takes_begin : (profile : List DeviceParts) (text : List ℕ) (t : TransactionData) (result : Option TakenPacket)
    → IfSome result (λ taken. TakesPacket profile text taken.used taken.events t) → IsSome result
    → BeginsWithPacket profile text
takes_begin profile text t None takes some = absurd (cc some)
takes_begin profile text t (Some taken) takes some = (taken.used, taken.events, t, takes)
