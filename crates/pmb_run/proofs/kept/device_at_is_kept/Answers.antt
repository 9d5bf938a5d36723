use Rattle.std.proofs.Common.{Option, subst}
use Rattle.std.specs.Prelude.{IfSome}
use Rattle.pmb_command.specs.Parts.{DeviceParts}
use Rattle.pmb_run.specs.Kept.{IsKeptDevice}
use Rattle.pmb_run.proofs.kept.device_at_is_kept.Goals as goal

pub returns-in-Some : goal.returns-in-Some
returns-in-Some c = subst (λ (o : Option DeviceParts). IfSome o IsKeptDevice) c.in-Some.ensures.device
    c.device_is_kept.ensures

pub returns-in-None : goal.returns-in-None
returns-in-None c = subst (λ (o : Option DeviceParts). IfSome o IsKeptDevice) c.in-None.ensures.device tt
