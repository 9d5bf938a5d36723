-- What is said of a profile's fault.
use Rattle.std.specs.Prelude.{◌≡◌, ℕ, Option, Result, Ok, Err, List, length}
use Rattle.pmb_hints.specs.Hints.{Explains as IsExplained}
use Rattle.pmb_io.specs.Count.{capped}
use Rattle.pmb_in_memory.specs.Laid.{laid}
use Rattle.pmb_places.specs.declared.places.Place.{Place}
use Rattle.pmb_table.specs.Profile.{ProfileParts}
use Rattle.pmb_table.specs.declared.fault.ProfileFault.{ProfileFault}
use Rattle.pmb_in_memory.specs.Profile.{IsProfile}
use Rattle.pmb_in_memory.specs.declared.fault.WholeFault.{WholeFault}
use Rattle.pmb_in_memory.specs.declared.fault.WholeFault.TheVariants.{Profile, Memory, Write}
use Rattle.pmb_c.specs.declared.result.PmbResult.{PmbResult}
use Rattle.pmb_firmware.specs.declared.call_status.CallStatus.TheVariants.{Done, NoMemory}
use Rattle.pmb_c.specs.Result.{result_at, result_of_fault, result_of_status}

-- a text stands in the room, as far as it fits, and this is its length
abbrev pub IsLaid : List ℕ → List ℕ → List ℕ → ℕ → Type 0
IsLaid text before after count = (after ≡ laid text before) × (count ≡ capped (length text))

-- The text with which the fault is explained, with its hints, stands in the room. The fault is told with the
-- text's length, and with the place that the text names, where it names one.
pub record TellsFault (profile : List ℕ) (fault : ProfileFault) (before after : List ℕ) (told : PmbResult)
    : Type 0 where
  pub text : List ℕ
  pub place : Option Place
  pub count : ℕ
  pub explained : IsExplained profile fault text place
  pub laid : IsLaid text before after count
  pub tells : told ≡ result_at place (result_of_fault fault count)

-- only a fault has a text
abbrev pub ExplainsOutcome : Result ProfileParts WholeFault → List ℕ → List ℕ → List ℕ → PmbResult → Type 0
ExplainsOutcome (Ok bus) profile before after told = (after ≡ before) × (told ≡ result_of_status Done)
ExplainsOutcome (Err (Profile fault)) profile before after told = TellsFault profile fault before after told
ExplainsOutcome (Err Memory) profile before after told = (after ≡ before) × (told ≡ result_of_status NoMemory)
ExplainsOutcome (Err Write) profile before after told = ⊥

-- of the profile of a text
pub record Explains (profile before after : List ℕ) (told : PmbResult) : Type 0 where
  pub outcome : Result ProfileParts WholeFault
  pub is_profile : IsProfile profile outcome
  pub explains : ExplainsOutcome outcome profile before after told
