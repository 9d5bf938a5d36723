-- A text put into a room.
use Rattle.std.specs.Prelude.{◌≡◌, ℕ, Result, Ok, Err, List, length}
use Rattle.pmb_io.specs.Count.{capped}
use Rattle.pmb_io.specs.Runs.{Job}
use Rattle.pmb_io.specs.declared.tally.Tally.{Tally}
use Rattle.pmb_table.specs.Profile.{ProfileParts}
use Rattle.pmb_in_memory.specs.Laid.{laid}
use Rattle.pmb_in_memory.specs.Import.{PutsText}
use Rattle.pmb_in_memory.specs.Profile.{HasBus, HasFault}
use Rattle.pmb_whole_input.specs.Whole.{IsText}
use Rattle.pmb_in_memory.specs.declared.fault.WholeFault.{WholeFault}
use Rattle.pmb_in_memory.specs.declared.fault.WholeFault.TheVariants.{Profile, Memory, Write}
use Rattle.pmb_in_memory.specs.declared.put.Put.{Put}

-- Under the bus of a profile's text the job's text for an input stands in the room, as far as it fits,
-- and its length is told.
pub record PutWhole (job : ProfileParts → Job Tally) (profile input before after : List ℕ)
    (put : Put) : Type 0 where
  pub bus : ProfileParts
  pub text : List ℕ
  pub of_profile : HasBus profile bus
  pub is_text : IsText (job bus) put.tally input text
  pub room : after ≡ laid text before
  pub told : put.length ≡ capped (length text)

-- the same, or the room stays: the profile's text has a fault, or there was no memory
abbrev pub Puts : (ProfileParts → Job Tally) → List ℕ → List ℕ → List ℕ → List ℕ → Result Put WholeFault → Type 0
Puts job profile input before after (Ok put) = PutWhole job profile input before after put
Puts job profile input before after (Err (Profile fault)) = HasFault profile fault × (after ≡ before)
Puts job profile input before after (Err Memory) = after ≡ before
Puts job profile input before after (Err Write) = ⊥

-- what is told where a text of so many bytes was written
abbrev pub put_of : ℕ → Result Tally WholeFault → Result Put WholeFault
put_of length (Ok tally) = Ok (record { tally = tally; length = length })
put_of length (Err fault) = Err fault

-- The same where there is no profile's text, as under a profile that was read before, or of a recording.
abbrev pub PutsUnder : Job Tally → List ℕ → List ℕ → List ℕ → Result Put WholeFault → Type 0
PutsUnder job input before after (Ok put) = PutsText job input before after put
PutsUnder job input before after (Err (Profile fault)) = ⊥
PutsUnder job input before after (Err Memory) = after ≡ before
PutsUnder job input before after (Err Write) = ⊥
