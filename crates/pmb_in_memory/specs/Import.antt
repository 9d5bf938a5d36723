-- What is written of a whole recording.
use Rattle.std.specs.Prelude.{◌≡◌, ℕ, List, length}
use Rattle.pmb_io.specs.Count.{capped}
use Rattle.pmb_io.specs.Runs.{Job}
use Rattle.pmb_io.specs.declared.tally.Tally.{Tally}
use Rattle.pmb_whole_input.specs.Whole.{IsText}
use Rattle.pmb_in_memory.specs.Laid.{laid}
use Rattle.pmb_in_memory.specs.declared.put.Put.{Put}

-- The job's text for an input stands in the room, as far as it fits, and its length is told.
pub record PutsText (job : Job Tally) (input before after : List ℕ) (put : Put) : Type 0 where
  pub text : List ℕ
  pub is_text : IsText job put.tally input text
  pub room : after ≡ laid text before
  pub told : put.length ≡ capped (length text)
