-- What a handle holds, and what the calls under it do.
use Rattle.std.specs.Arc.{arc_value}
use Rattle.std.specs.declared.sync.Arc.{Arc}
use Rattle.std.specs.declared.alloc.Global.{Global}
use Rattle.std.specs.Prelude.{◌≡◌, ◌⊎◌, ℕ, ℤ, Option, Some, None, Result, Ok, Err, List, length}
use Rattle.pmb_io.specs.Runs.{Job}
use Rattle.pmb_io.specs.declared.tally.Tally.{Tally}
use Rattle.pmb_table.specs.Profile.{ProfileParts}
use Rattle.pmb_in_memory.specs.Json.{telling}
use Rattle.pmb_in_memory.specs.Profile.{IsProfile}
use Rattle.pmb_in_memory.specs.Put.{PutsUnder}
use Rattle.pmb_in_memory.specs.declared.fault.WholeFault.{WholeFault}
use Rattle.pmb_in_memory.specs.declared.fault.WholeFault.TheVariants.{Profile, Memory, Write}
use Rattle.pmb_in_memory.specs.declared.json_choice.JsonChoice.{JsonChoice}
use Rattle.pmb_in_memory.specs.declared.put.Put.{Put}
use Rattle.pmb_c.specs.declared.held.Held.{Held}
use Rattle.pmb_c.specs.declared.held.Held.TheVariants as held
use Rattle.pmb_c.specs.declared.result.PmbResult.{PmbResult}
use Rattle.pmb_firmware.specs.CallStatus.{number_of}
use Rattle.pmb_firmware.specs.declared.call_status.CallStatus.{CallStatus}
use Rattle.pmb_firmware.specs.declared.call_status.CallStatus.TheVariants as status
use Rattle.pmb_c.specs.Result.{result_of, result_of_fault, result_of_status}
use Rattle.pmb_c.specs.Whole.{Stays}

-- the profile that a handle holds, if it holds one
abbrev pub profile_in : Option Held → Option ProfileParts
profile_in None = None
profile_in (Some (held.Profile shared)) = Some (arc_value shared)
profile_in (Some (held.Reader kept)) = None
profile_in (Some (held.Bus kept)) = None

-- it holds one
abbrev pub HoldsProfile : Option Held → Type 0
HoldsProfile from = (bus : ProfileParts) × (profile_in from ≡ Some bus)

-- ---- opening

-- A profile was read, and this is held and told of it. Nothing is held for want of memory.
abbrev pub OpensOutcome : Result ProfileParts WholeFault → Option Held → PmbResult → Type 0
OpensOutcome (Ok bus) after told = (profile_in after ≡ Some bus) × (told ≡ result_of_status status.Done)
OpensOutcome (Err (Profile fault)) after told = (after ≡ None) × (told ≡ result_of_fault fault 0)
OpensOutcome (Err Memory) after told = (after ≡ None) × (told ≡ result_of_status status.NoMemory)
OpensOutcome (Err Write) after told = ⊥

-- the profile of a text
pub record Opens (text : List ℕ) (after : Option Held) (told : PmbResult) : Type 0 where
  pub outcome : Result ProfileParts WholeFault
  pub is_profile : IsProfile text outcome
  pub opens : OpensOutcome outcome after told

-- Another handle of the same profile is open, or none: the handle holds no profile, or there was no memory
-- for another handle of the one that it holds.
abbrev pub Shares : Option Held → Option Held → CallStatus → Type 0
Shares from after why =
    ((bus : ProfileParts) × (profile_in from ≡ Some bus) × (profile_in after ≡ Some bus) × (why ≡ status.Done))
    ⊎ (((profile_in from ≡ None) × (after ≡ None) × (why ≡ status.Closed))
    ⊎ (HoldsProfile from × (after ≡ None) × (why ≡ status.NoMemory)))

-- a status of which this holds is returned as its number
pub record Returns (Holds : CallStatus → Type 0) (returned : ℤ) : Type 0 where
  pub why : CallStatus
  pub holds : Holds why
  pub number : returned ≡ number_of why

-- ---- a profile lent for a call

-- a shared profile, as what it is
abbrev pub profile_of : {E : Type 0} → Result (Arc ProfileParts Global) E → Result ProfileParts E
profile_of (Ok shared) = Ok (arc_value shared)
profile_of (Err why) = Err why

-- What is lent of what is held. Only of a profile there may be no memory.
abbrev pub Lends : Option Held → Result ProfileParts CallStatus → Type 0
Lends from (Ok bus) = profile_in from ≡ Some bus
Lends from (Err why) =
    ((why ≡ status.Closed) × (profile_in from ≡ None)) ⊎ ((why ≡ status.NoMemory) × HoldsProfile from)

-- The job's text for an input under the profile that is held stands in the room, or the room stays.
pub data AnswersUnder (job : ProfileParts → Job Tally) (from : Option Held) (input before after : List ℕ)
    (told : PmbResult) : Type 0 where
  Under : (bus : ProfileParts) (outcome : Result Put WholeFault) → profile_in from ≡ Some bus
      → PutsUnder (job bus) input before after outcome → told ≡ result_of (length before) outcome
      → AnswersUnder job from input before after told
  Closed : profile_in from ≡ None → Stays status.Closed before after told → AnswersUnder job from input before after told
  NoMemory : HoldsProfile from → Stays status.NoMemory before after told
      → AnswersUnder job from input before after told

-- as JSON, of devices at these addresses, and as it is chosen
abbrev pub AnswersJsonUnder : Result JsonChoice CallStatus → List ℕ → Option Held → List ℕ → List ℕ → List ℕ → PmbResult
    → Type 0
AnswersJsonUnder (Ok choice) devices from capture before after told =
    AnswersUnder (telling choice devices) from capture before after told
AnswersJsonUnder (Err why) devices from capture before after told = Stays why before after told
