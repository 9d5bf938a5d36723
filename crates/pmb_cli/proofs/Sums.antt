-- What `stats` writes goes by what its words choose, however that is handed on. For `write_stats`.
use Rattle.std.proofs.Common.{◌≡◌, ◌∙◌, ℕ, Result, Ok, Err, Option, List, ap, subst}
use Rattle.pmb_command.specs.Parts.{DeviceParts}
use Rattle.pmb_args.specs.declared.stats_arguments.StatsForm.{StatsForm}
use Rattle.pmb_io.specs.Runs.{AsTool, Job, Ran}
use Rattle.pmb_io.specs.Told.{ReaderTold, WriterTold}
use Rattle.pmb_io.specs.declared.fault.ToolFault.{ToolFault}
use Rattle.pmb_io.specs.declared.fault.ToolFault.TheVariants.{Read, Write, TooManyReads, ProfileTooLong, Memory}
use Rattle.pmb_io.specs.declared.tally.Tally.{Tally}
use Rattle.pmb_run.specs.Lines.{OrNoMemory}
use Rattle.pmb_stats_counts.specs.declared.fail.Fail.{Fail}
use Rattle.pmb_summary.specs.Choice.{SumsData}
use Rattle.pmb_cli.specs.Stats.{summed}

-- the same choice, part by part
pub summed_as : (form : StatsForm) (sums : SumsData) (devices : List ℕ) (ignored : Option (List ℕ))
    (fail_on : Option (List Fail)) (profile other : List DeviceParts) → sums.devices ≡ devices
    → sums.ignored ≡ ignored → sums.fail_on ≡ fail_on → profile ≡ other
    → summed form sums profile
    ≡ summed form (record sums { devices = devices; ignored = ignored; fail_on = fail_on }) other
summed_as form sums devices ignored fail_on profile other same_devices same_ignored same_fails same_profile =
    ap (λ (d : List ℕ). summed form (record sums { devices = d }) profile) same_devices
    ∙ ap (λ (i : Option (List ℕ)). summed form (record sums { devices = devices; ignored = i }) profile) same_ignored
    ∙ ap (λ (f : Option (List Fail)). summed form (record sums { devices = devices; ignored = ignored; fail_on = f })
    profile) same_fails
    ∙ ap (λ (p : List DeviceParts). summed form
    (record sums { devices = devices; ignored = ignored; fail_on = fail_on }) p) same_profile

module _ {R W : Type 0} (reader_told : R → ReaderTold) (writer_told : W → WriterTold) (NoMemory : Type 0)
    (first : List ℕ) (old new : R × W) where
  -- a run is one that lacked no memory
  ran_or_none : (job : Job Tally) (result : Result Tally ToolFault)
      → AsTool (Ran reader_told writer_told job first old new) result
      → OrNoMemory NoMemory (AsTool (Ran reader_told writer_told job first old new)) result
  ran_or_none job (Ok tally) ran = ran
  ran_or_none job (Err Read) ran = ran
  ran_or_none job (Err Write) ran = ran
  ran_or_none job (Err TooManyReads) ran = ran
  ran_or_none job (Err ProfileTooLong) ran = ran
  ran_or_none job (Err Memory) ran = absurd ran

  pub ran_as_wanted : (job wanted : Job Tally) → job ≡ wanted → (result : Result Tally ToolFault)
      → AsTool (Ran reader_told writer_told job first old new) result
      → OrNoMemory NoMemory (AsTool (Ran reader_told writer_told wanted first old new)) result
  ran_as_wanted job wanted same result ran =
      ran_or_none wanted result (subst (λ (j : Job Tally). AsTool (Ran reader_told writer_told j first old new) result)
      same ran)
