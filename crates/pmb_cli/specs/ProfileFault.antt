-- What is reported of a fault of a profile.
use Rattle.std.specs.Prelude.{◌≡◌, ◌≢◌, ◌⊎◌}
use Rattle.pmb_io.specs.Told.{WriterTold}
use Rattle.pmb_keys.specs.declared.fault.FaultKind.{FaultKind}
use Rattle.pmb_keys.specs.declared.fault.FaultKind.TheVariants.{OutOfMemory}
use Rattle.pmb_args.specs.ExitStatus.{IsTold}
use Rattle.pmb_args.specs.declared.exit_status.ExitStatus.{ExitStatus}
use Rattle.pmb_args.specs.declared.exit_status.ExitStatus.TheVariants.{BadArguments, NoMemory}

-- By what the fault is, by the status that is returned for it, and by standard error before and after.
pub record IsReported (what : FaultKind) (status : ExitStatus) (old new : WriterTold) : Type 0 where
  -- want of memory for the profile is no fault of it
  pub memory : what ≡ OutOfMemory → status ≡ NoMemory
  pub other : what ≢ OutOfMemory → status ≡ BadArguments
  pub refused : (status ≡ BadArguments) ⊎ (status ≡ NoMemory)
  -- some text is there, or writing it failed
  pub text : IsTold old new
