-- Where a line may tell of a loss at its end.
use Rattle.std.specs.Prelude.{ℕ, ◌+◌, Option, Some, None, List, ◌∷◌, codes, length, slice_index}
use Rattle.pmb_trace.specs.Line.{Loss, last_loss}

-- the first letter of such a text
abbrev pub letter : ℕ
letter = slice_index (codes "P") 0

-- the loss that is told from that letter on
abbrev pub last_from : Option (List ℕ) → Option Loss
last_from (Some rest) = last_loss (letter ∷ rest)
last_from None = None

-- how much is left
abbrev pub size : Option (List ℕ) → ℕ
size (Some rest) = 1 + length rest
size None = 0
