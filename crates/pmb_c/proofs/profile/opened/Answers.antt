use Rattle.std.proofs.Common.{Err}
use Rattle.pmb_in_memory.specs.declared.fault.WholeFault.TheVariants.{Memory}
use Rattle.pmb_c.proofs.profile.opened.Goals as goal

-- there was no memory for the handle,
pub returns-in-Ok-new : goal.returns-in-Ok-new
returns-in-Ok-new c = record { outcome = Err Memory; is_profile = tt; opens = (c.requires, c.of_status-in-None.ensures) }

-- or for the profile
pub returns-in-Ok : goal.returns-in-Ok
returns-in-Ok c = record { outcome = Err Memory; is_profile = tt; opens = (c.requires, c.of_status-in-Err.ensures) }
