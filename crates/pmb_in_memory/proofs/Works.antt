-- A task over a whole input, as the work of that name: for `work_under`, `json_under` and `write_import`.
use Rattle.std.proofs.Common.{◌≡◌, ℕ, List, Result, Ok, Err, subst, sym}
use Rattle.pmb_io.specs.declared.fault.ToolFault.{ToolFault}
use Rattle.pmb_io.specs.declared.fault.ToolFault.TheVariants as tool
use Rattle.pmb_io.specs.declared.tally.Tally.{Tally}
use Rattle.pmb_io.specs.Runs.{Job}
use Rattle.pmb_io.specs.Told.{WriterTold}
use Rattle.pmb_whole_input.specs.Whole.{WritesOrNoMemory}
use Rattle.pmb_table.specs.Profile.{ProfileParts}
use Rattle.pmb_in_memory.specs.Fault.{whole_of}
use Rattle.pmb_in_memory.specs.Profile.{IsProfile}
use Rattle.pmb_in_memory.specs.Whole.{WorksIf, WorksOn, WorksUnder}
use Rattle.pmb_in_memory.specs.declared.fault.WholeFault.{WholeFault}
use Rattle.pmb_in_memory.specs.declared.fault.WholeFault.TheVariants.{Profile, Memory, Write}

module _ {W : Type 0} (told : W → WriterTold) (job : Job Tally) (input : List ℕ) (old new : W) where
  pub works : (result : Result Tally ToolFault) → WritesOrNoMemory told job input old new result
      → WorksUnder told job input old new (whole_of result)
  works (Ok tally) wrote = wrote
  works (Err tool.Write) failed = failed
  works (Err tool.Memory) same = same
  works (Err tool.Read) never = absurd never
  works (Err tool.TooManyReads) never = absurd never
  works (Err tool.ProfileTooLong) never = absurd never

  -- the same, where it was the job that is wanted
  pub works_as : (wanted : Job Tally) → job ≡ wanted → (result : Result Tally ToolFault)
      → WritesOrNoMemory told job input old new result → WorksUnder told wanted input old new (whole_of result)
  works_as wanted same result wrote =
      subst (λ (j : Job Tally). WorksUnder told j input old new (whole_of result)) same (works result wrote)

-- .. under a profile that was read of a text: for `write_whole` and `write_json`
module _ {W : Type 0} (told : W → WriterTold) (job : ProfileParts → Job Tally) (profile input : List ℕ) (old new : W) where
  under : (bus : ProfileParts) → IsProfile profile (Ok bus) → (result : Result Tally WholeFault)
      → WorksUnder told (job bus) input old new result → WorksOn told job profile input old new result
  under bus is (Ok tally) wrote = record { bus = bus; of_profile = is; wrote = wrote }
  under bus is (Err (Profile fault)) never = absurd never
  under bus is (Err Memory) same = same
  under bus is (Err Write) failed = failed

  unread : (fault : WholeFault) → IsProfile profile (Err fault) → new ≡ old
      → WorksOn told job profile input old new (Err fault)
  unread (Profile fault) is same = (is, same)
  unread Memory is same = same
  unread Write never same = absurd never

  pub works_on : (read : Result ProfileParts WholeFault) → IsProfile profile read → (result : Result Tally WholeFault)
      → WorksIf told job read input old new result → WorksOn told job profile input old new result
  works_on (Ok bus) is result works = under bus is result works
  works_on (Err fault) is result stays =
      subst (λ (r : Result Tally WholeFault). WorksOn told job profile input old new r) (sym stays.0)
      (unread fault is stays.1)
