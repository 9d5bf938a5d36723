-- What is written of a whole input.
use Rattle.std.specs.Prelude.{◌≡◌, ℕ, Result, Ok, Err, List}
use Rattle.pmb_io.specs.Count.{raised}
use Rattle.pmb_io.specs.Runs.{Job}
use Rattle.pmb_io.specs.Told.{WriterTold}
use Rattle.pmb_io.specs.declared.tally.Tally.{Tally}
use Rattle.pmb_table.specs.Profile.{ProfileParts}
use Rattle.pmb_whole_input.specs.Whole.{Wrote}
use Rattle.pmb_in_memory.specs.Profile.{HasBus, HasFault}
use Rattle.pmb_in_memory.specs.declared.fault.WholeFault.{WholeFault}
use Rattle.pmb_in_memory.specs.declared.fault.WholeFault.TheVariants.{Profile, Memory, Write}

module _ {W : Type 0} (told : W → WriterTold) where
  -- The job's text for an input went out under a profile's text.
  pub record WroteWhole (job : ProfileParts → Job Tally) (profile input : List ℕ) (old new : W)
      (tally : Tally) : Type 0 where
    pub bus : ProfileParts
    pub of_profile : HasBus profile bus
    pub wrote : Wrote told (job bus) input old new tally

  -- the writer failed where it answers `Write`; nothing was written where it answers `Memory`
  abbrev pub WorksUnder : Job Tally → List ℕ → W → W → Result Tally WholeFault → Type 0
  WorksUnder job input old new (Ok tally) = Wrote told job input old new tally
  WorksUnder job input old new (Err (Profile fault)) = ⊥
  WorksUnder job input old new (Err Memory) = new ≡ old
  WorksUnder job input old new (Err Write) = (told new).failures ≡ raised (told old).failures 1

  -- the same under a profile that was read; where none was, the answer is why, and nothing was written
  abbrev pub WorksIf : (ProfileParts → Job Tally) → Result ProfileParts WholeFault → List ℕ → W → W
      → Result Tally WholeFault → Type 0
  WorksIf job (Ok bus) input old new result = WorksUnder (job bus) input old new result
  WorksIf job (Err fault) input old new result = (result ≡ Err fault) × (new ≡ old)

  -- the same under a profile's text; nothing was written where that has a fault
  abbrev pub WorksOn : (ProfileParts → Job Tally) → List ℕ → List ℕ → W → W → Result Tally WholeFault → Type 0
  WorksOn job profile input old new (Ok tally) = WroteWhole job profile input old new tally
  WorksOn job profile input old new (Err (Profile fault)) = HasFault profile fault × (new ≡ old)
  WorksOn job profile input old new (Err Memory) = new ≡ old
  WorksOn job profile input old new (Err Write) = (told new).failures ≡ raised (told old).failures 1
