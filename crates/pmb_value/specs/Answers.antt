-- What each quantity comes to.
use Rattle.std.specs.Prelude.{ℕ, ◌<◌, ◌⊎◌}
use Rattle.pmb_quantity.specs.Fraction.{Fraction}
use Rattle.pmb_format.specs.Coding.{Coding, IsAbove, IsBelow, IsInRange, IsNearest}

-- Each quantity is in the range of a format and has a nearest code, or it is below or above all values.
abbrev pub HasAnswers : Coding → Type 0
HasAnswers f = (q : Fraction) → 0 < q.denominator → (IsInRange f q × ((code : ℕ) × IsNearest f q code))
    ⊎ (IsBelow f q ⊎ IsAbove f q)
