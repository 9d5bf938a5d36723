-- The place of a fault: for all that is read of a profile.
use Rattle.std.proofs.Common.{◌≡◌, Result, Ok, Err}
use Rattle.std.specs.Prelude.{IfOk}
use Rattle.pmb_keys.specs.declared.fault.FaultKind.{FaultKind}
use Rattle.pmb_table.specs.declared.fault.ProfileFault.{ProfileFault}
use Rattle.pmb_table.specs.Profile.{placed}

-- a fault that is placed
pub if_placed : {X : Type 0} (place : FaultKind → ProfileFault) (r : Result X FaultKind) (P : X → Type 0) → IfOk r P
    → IfOk (placed place r) P
if_placed place (Ok x) P is = is
if_placed place (Err what) P is = tt

-- what is answered in a place is answered without it
pub unplaced : {X : Type 0} (place : FaultKind → ProfileFault) (r : Result X FaultKind) (x : X)
    → placed place r ≡ Ok x → r ≡ Ok x
unplaced place (Ok y) x is = cc
unplaced place (Err what) x is = cc
