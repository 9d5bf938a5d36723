use Rattle.std.proofs.Common.{rules}
use Rattle.pmb_keys.proofs.device_keys.device_keys.Goals as goal

-- the fault of the address, where the keys are known
pub returns-in_err-address-clause-read : goal.returns-in_err-address-clause-read
returns-in_err-address-clause-read c =
    let known = c.in_ok-only.ensures in
    let address = c.in_err-address.ensures.read in
    rw (← known, ← address) (search rules)

-- the fault of `pec`, where the address has none
pub returns-in_err-pec-clause-read : goal.returns-in_err-pec-clause-read
returns-in_err-pec-clause-read c =
    let known = c.in_ok-only.ensures in
    let address = c.in_ok-address.ensures.read in
    let pec = c.in_err-pec.ensures in
    rw (← known, ← address, ← pec) (search rules)
