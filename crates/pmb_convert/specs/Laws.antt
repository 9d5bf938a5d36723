-- Laws over the definitions alone.
use Rattle.std.specs.Prelude.{◌≡◌, ◌<◌, ℕ, Result, Ok, Err, List, ◌++◌}
use Rattle.pmb_io.specs.declared.tally.Tally.{Tally}
use Rattle.pmb_quantity.specs.Fraction.{Fraction}
use Rattle.pmb_quantity.specs.declared.quantity.QuantityFault.{QuantityFault}
use Rattle.pmb_convert.specs.declared.conversion.Conversion.{Conversion}
use Rattle.pmb_convert.specs.Lines.{AnswersEnded, AnswersInput}

-- The text that answers an input, and its tally, are those of its bytes alone; so is the text that
-- answers the lines that have ended in it.
pub record IsDetermined (conversion : Conversion) : Type 0 where
  pub text : (bytes text other : List ℕ) (tally count : Tally) → AnswersInput conversion tally bytes text
      → AnswersInput conversion count bytes other → text ≡ other
  pub tally : (bytes text other : List ℕ) (tally count : Tally) → AnswersInput conversion tally bytes text
      → AnswersInput conversion count bytes other → tally ≡ count
  pub ended : (bytes text other : List ℕ) → AnswersEnded conversion bytes text → AnswersEnded conversion bytes other
      → text ≡ other

-- The text that answers the lines that have ended in some bytes is one, and a front of the text that
-- answers these bytes and whatever follows.
pub record ComesFirst (conversion : Conversion) : Type 0 where
  pub one : (bytes text other : List ℕ) → AnswersEnded conversion bytes text → AnswersEnded conversion bytes other
      → text ≡ other
  pub front : (bytes more text whole : List ℕ) (tally : Tally) → AnswersEnded conversion bytes text
      → AnswersInput conversion tally (bytes ++ more) whole
      → (rest : List ℕ) × (whole ≡ text ++ rest)

-- some text and tally answer any input
abbrev pub HasText : Conversion → Type 0
HasText conversion = (bytes : List ℕ) → (tally : Tally) × (text : List ℕ) × AnswersInput conversion tally bytes text

-- a quantity that was read has a denominator above 0
abbrev pub HasPositive : Result Fraction QuantityFault → Type 0
HasPositive (Ok q) = 0 < q.denominator
HasPositive (Err fault) = Unit {0}
