-- What is written of an input that is at hand as a whole.
use Rattle.std.specs.Prelude.{◌≡◌, ◌⊎◌, ℕ, Result, Ok, Err, List}
use Rattle.std.specs.Io.KnownBytes.{Appends}
use Rattle.pmb_io.specs.Count.{raised}
use Rattle.pmb_io.specs.Runs.{Job}
use Rattle.pmb_io.specs.Told.{WriterTold}
use Rattle.pmb_io.specs.declared.fault.ToolFault.{ToolFault}
use Rattle.pmb_io.specs.declared.fault.ToolFault.TheVariants as tool

-- The text is what the job writes for all of an input, or for one of which no more is wanted.
abbrev pub IsText : {A : Type 0} → Job A → A → List ℕ → List ℕ → Type 0
IsText job answer input text = job.Whole answer input text ⊎ job.Stops answer input text

module _ {W : Type 0} (told : W → WriterTold) where
  -- the job's text for an input went out, and no write failed
  pub record Wrote {A : Type 0} (job : Job A) (input : List ℕ) (old new : W) (answer : A) : Type 0 where
    pub text : List ℕ
    pub is_text : IsText job answer input text
    pub appended : Appends (told old).held (told new).held text
    pub none_failed : (told new).failures ≡ (told old).failures

  -- the same, or the writer failed, or there was no memory, and nothing was written; the tool's other
  -- faults are not returned
  abbrev pub WritesOrNoMemory : {A : Type 0} → Job A → List ℕ → W → W → Result A ToolFault → Type 0
  WritesOrNoMemory job input old new (Ok answer) = Wrote job input old new answer
  WritesOrNoMemory job input old new (Err tool.Write) = (told new).failures ≡ raised (told old).failures 1
  WritesOrNoMemory job input old new (Err tool.Memory) = new ≡ old
  WritesOrNoMemory job input old new (Err tool.Read) = ⊥
  WritesOrNoMemory job input old new (Err tool.TooManyReads) = ⊥
  WritesOrNoMemory job input old new (Err tool.ProfileTooLong) = ⊥
