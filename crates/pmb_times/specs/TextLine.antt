-- A line of a text, without the LF at its end.
use Rattle.std.specs.Prelude.{◌≡◌, ◌≢◌, ◌<◌, ◌⊎◌, ℕ, List, [], ◌++◌, codes, length, slice_index}
use Rattle.pmb_bus.specs.Event.{character}

-- no byte is LF
abbrev pub HasNoLineFeed : List ℕ → Type 0
HasNoLineFeed bytes = (k : ℕ) → k < length bytes → slice_index bytes k ≢ character "\n"

-- a line begins after a text that is empty or ends with a LF
abbrev pub BeginsLine : List ℕ → Type 0
BeginsLine front = (front ≡ []) ⊎ ((lines : List ℕ) × (front ≡ lines ++ codes "\n"))

-- The line comes after the text: it begins there, and has no LF, so that it has not ended.
pub record IsLineAfter (front line : List ℕ) : Type 0 where
  pub begins : BeginsLine front
  pub unended : HasNoLineFeed line
