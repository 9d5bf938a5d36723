-- Laws over the definitions alone.
use Rattle.std.specs.Prelude.{◌≡◌, ◌≢◌, ℕ, ◌<◌, ◌≤◌, ℤ, pos, Ok, List, ◌++◌, length, codes}
use Rattle.pmb_quantity.specs.Fraction.{Fraction, HasValue, IsLowest, lowest_terms}
use Rattle.pmb_quantity.specs.QuantityText.{spelling}
use Rattle.pmb_quantity.specs.Reading.{reading}

-- lowest terms are the same fraction, each number that divides both is 1, and no other fraction is
-- so
pub record AreLowestTerms (n : ℤ) (d : ℕ) : Type 0 where
  pub same_value : HasValue n (pos d) (lowest_terms n d)
  pub positive : 0 < (lowest_terms n d).denominator
  pub lowest : IsLowest (lowest_terms n d)
  pub only : (q : Fraction) → 0 < q.denominator → HasValue n (pos d) q → IsLowest q → q ≡ lowest_terms n d

-- what a fraction is written as reads back as that fraction
abbrev pub ReadsBack : Fraction → Type 0
ReadsBack q = reading (spelling q) ≡ Ok q

-- a text without a slash
abbrev pub IsDecimal : List ℕ → Type 0
IsDecimal text = (front back : List ℕ) → text ≢ front ++ (codes "/" ++ back)

-- no shorter decimal reads as what is written
abbrev pub IsShortest : Fraction → Type 0
IsShortest q = (text : List ℕ) → IsDecimal text → reading text ≡ Ok q → length (spelling q) ≤ length text
