-- The exit status of `scan`.
use Rattle.std.specs.Prelude.{Result, Ok, Err}
use Rattle.pmb_args.specs.ExitStatus.{run_status, status_of}
use Rattle.pmb_args.specs.declared.exit_status.ExitStatus.{ExitStatus}
use Rattle.pmb_args.specs.declared.exit_status.ExitStatus.TheVariants.{BadArguments}
use Rattle.pmb_draft.specs.declared.fault.DraftFault.{DraftFault}
use Rattle.pmb_draft.specs.declared.fault.DraftFault.TheVariants.{Tool, TooLong, Refused}
use Rattle.pmb_io.specs.declared.tally.Tally.{Tally}

-- that of its run, or of bad words where there is no first profile
abbrev pub draft_status : Result Tally DraftFault → ExitStatus
draft_status (Ok tally) = run_status (Ok tally)
draft_status (Err (Tool fault)) = status_of fault
draft_status (Err TooLong) = BadArguments
draft_status (Err Refused) = BadArguments
