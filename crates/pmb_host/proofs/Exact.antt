-- A host is made exactly where a request has no fault: for `Host::new`. An allowed request has no
-- fault, and a request that has one makes no host.
use Rattle.std.proofs.Common.{◌≡◌, ◌↔◌, Result, Ok, Err, IsOk, MatchResult, List, refl, sym, subst}
use Rattle.pmb_command.specs.Bus.{IsBus}
use Rattle.pmb_command.specs.Parts.{DeviceParts}
use Rattle.pmb_request.specs.declared.request.Request.{Request}
use Rattle.pmb_request.specs.Request.{RequestData, request_data}
use Rattle.pmb_host.specs.declared.host.Host.{Host}
use Rattle.pmb_host.specs.declared.step.HostFault.{HostFault}
use Rattle.pmb_host.specs.Host.{IsNewHost}
use Rattle.pmb_host.specs.Rules.{IsFault}
use Rattle.pmb_host.proofs.Faults.{allowed_or_fault}

made_exactly : (profile : List DeviceParts) (request : RequestData) (made : Result Host HostFault) → IsBus profile
    → MatchResult made (IsNewHost profile request) (IsFault profile request) → IsOk made
    ↔ ((fault : HostFault) → IsFault profile request fault → ⊥)
made_exactly profile request (Ok host) bus new =
    (λ _ fault broken. allowed_or_fault profile request new.word new.number fault bus new.allowed broken, λ _. refl)
made_exactly profile request (Err fault) bus broken = (λ ok. absurd (cc ok), λ none. absurd (none fault broken))

-- .. of a request that is known to be this one
pub new_exactly : (profile : List DeviceParts) (request given : Request) (made : Result Host HostFault) → IsBus profile
    → request ≡ given
    → MatchResult made (IsNewHost profile (request_data given)) (IsFault profile (request_data given))
    → IsOk made ↔ ((fault : HostFault) → IsFault profile (request_data request) fault → ⊥)
new_exactly profile request given made bus is answer =
    made_exactly profile (request_data request) made bus
    (subst (λ (it : Request). MatchResult made (IsNewHost profile (request_data it))
    (IsFault profile (request_data it))) (sym is) answer)
