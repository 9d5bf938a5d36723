-- The exit statuses.
use Rattle.std.specs.Prelude.{◌≡◌, ◌≢◌, ◌≤◌, ◌⊎◌, ℕ, ◌==◌, if◌then◌else◌, length, List, [], Result, Ok, Err}
use Rattle.std.specs.Io.KnownBytes.{Appends, Consumes}
use Rattle.pmb_io.specs.Count.{raised}
use Rattle.pmb_io.specs.Runs.{most_reads}
use Rattle.pmb_io.specs.Told.{ReaderTold, WriterTold}
use Rattle.pmb_io.specs.declared.fault.ToolFault.{ToolFault}
use Rattle.pmb_io.specs.declared.fault.ToolFault.TheVariants.{Read, Write, TooManyReads, ProfileTooLong, Memory}
use Rattle.pmb_io.specs.declared.tally.Tally.{Tally}
use Rattle.pmb_args.specs.declared.exit_status.ExitStatus.{ExitStatus}
use Rattle.pmb_args.specs.declared.exit_status.ExitStatus.TheVariants.{Done, Refusals, BadArguments, IoFailed, NoMemory}

-- the number of a status, with which the process exits
abbrev pub code_of : ExitStatus → ℕ
code_of Done = 0
code_of Refusals = 1
code_of BadArguments = 2
code_of IoFailed = 3
code_of NoMemory = 4

-- this holds of the status that has this number
abbrev pub OfCode : (ExitStatus → Type 0) → ℕ → Type 0
OfCode Holds code = (status : ExitStatus) × (code ≡ code_of status) × Holds status

-- all was done, with refusals or without
abbrev pub EndedWell : ExitStatus → Type 0
EndedWell Done = Unit {0}
EndedWell Refusals = Unit {0}
EndedWell BadArguments = ⊥
EndedWell IoFailed = ⊥
EndedWell NoMemory = ⊥

-- the status is neither Done nor Refusals
abbrev pub Failed : ExitStatus → Type 0
Failed Done = ⊥
Failed Refusals = ⊥
Failed BadArguments = Unit {0}
Failed IoFailed = Unit {0}
Failed NoMemory = Unit {0}

-- that of a fault: a profile that is too long counts as bad words
abbrev pub status_of : ToolFault → ExitStatus
status_of Read = IoFailed
status_of Write = IoFailed
status_of TooManyReads = IoFailed
status_of ProfileTooLong = BadArguments
status_of Memory = NoMemory

-- of a run that ended: Refusals where it met some
abbrev pub run_status : Result Tally ToolFault → ExitStatus
run_status (Ok tally) = if tally.refusals == 0 then Done else Refusals
run_status (Err fault) = status_of fault

-- 2^32 reads or more neither failed nor were the end, and gave as many bytes
pub record ReadOften (old new : ReaderTold) : Type 0 where
  pub count : ℕ
  pub often : most_reads ≤ count
  pub counted : new.reads ≡ raised old.reads count
  pub read : List ℕ
  pub consumed : Consumes old.left new.left read
  pub many : most_reads ≤ length read

-- some text was written
pub record Tells (old new : WriterTold) : Type 0 where
  pub text : List ℕ
  pub some : text ≢ []
  pub appended : Appends old.held new.held text

-- some text was written, or the writer failed
abbrev pub IsTold : WriterTold → WriterTold → Type 0
IsTold old new = (Tells old new × (new.failures ≡ old.failures)) ⊎ (new.failures ≡ raised old.failures 1)
