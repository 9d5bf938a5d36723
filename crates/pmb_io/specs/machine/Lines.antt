-- What is kept of the line under way.
use Rattle.std.specs.Prelude.{◌≡◌, ℕ, nat_lt, if◌then◌else◌, Bool, List, length, take}
use Rattle.pmb_io.specs.Lines.{TextLine, Ended, Last, TooLong, cut, ended_lines}

-- Of the line under way as many bytes are kept as a line may have, and whether it has more; those that have ended were
-- given to the task.
pub record StandsInLine (Given : List TextLine → List ℕ → Type 0) (most : ℕ) (line : List ℕ) (is_longer : Bool)
    (bytes text : List ℕ) : Type 0 where
  pub kept : line ≡ take most (cut bytes).rest
  pub longer : is_longer ≡ nat_lt most (length (cut bytes).rest)
  pub given : Given (ended_lines most bytes) text

-- the line under way, from what is kept of it, where an LF ended it
abbrev pub ended_kept : List ℕ → Bool → TextLine
ended_kept line is_longer = if is_longer then TooLong else Ended line

-- and where the text ended
abbrev pub last_kept : List ℕ → Bool → TextLine
last_kept line is_longer = if is_longer then TooLong else Last line
