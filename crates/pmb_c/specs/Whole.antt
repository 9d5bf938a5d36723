-- What a call over a whole input does.
use Rattle.std.specs.Prelude.{◌≡◌, ℕ, Result, Ok, Err, List, length}
use Rattle.pmb_io.specs.Runs.{Job}
use Rattle.pmb_io.specs.declared.tally.Tally.{Tally}
use Rattle.pmb_table.specs.Profile.{ProfileParts}
use Rattle.pmb_in_memory.specs.Json.{telling}
use Rattle.pmb_in_memory.specs.Put.{Puts}
use Rattle.pmb_in_memory.specs.declared.fault.WholeFault.{WholeFault}
use Rattle.pmb_in_memory.specs.declared.json_choice.JsonChoice.{JsonChoice}
use Rattle.pmb_in_memory.specs.declared.put.Put.{Put}
use Rattle.pmb_c.specs.declared.result.PmbResult.{PmbResult}
use Rattle.pmb_firmware.specs.declared.call_status.CallStatus.{CallStatus}
use Rattle.pmb_c.specs.Result.{result_of, result_of_status}

-- The job's text for an input under a profile's text stands in the room, or the room stays: what is
-- told says which.
pub record Answers (job : ProfileParts → Job Tally) (profile input before after : List ℕ)
    (told : PmbResult) : Type 0 where
  pub outcome : Result Put WholeFault
  pub puts : Puts job profile input before after outcome
  pub tells : told ≡ result_of (length before) outcome

-- nothing was done, for this reason
pub record Stays (why : CallStatus) (before after : List ℕ) (told : PmbResult) : Type 0 where
  pub room : after ≡ before
  pub tells : told ≡ result_of_status why

-- as JSON, of devices at these addresses, and as it is chosen
abbrev pub AnswersJson : Result JsonChoice CallStatus → List ℕ → List ℕ → List ℕ → List ℕ → List ℕ → PmbResult → Type 0
AnswersJson (Ok choice) devices profile capture before after told =
    Answers (telling choice devices) profile capture before after told
AnswersJson (Err why) devices profile capture before after told = Stays why before after told
