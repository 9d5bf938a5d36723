-- Laws over the definitions alone.
use Rattle.std.specs.Prelude.{◌≡◌, ℕ, ◌^◌, ◌≤◌, ℤ, Some, Ok}
use Rattle.pmb_quantity.specs.Fraction.{Fraction, IsQuantity, lowest_terms}
use Rattle.pmb_quantity.specs.QuantityText.{places_of, spelling}
use Rattle.pmb_quantity.specs.Reading.{reading}
use Rattle.pmb_json_text.specs.Json.{IsNumber}
use Rattle.pmb_decimal.specs.Decimal.{IsNearestDecimal, decimal_text, rounded_text}

-- what is written is the nearest decimal
abbrev pub WritesNearest : ℕ → Fraction → Type 0
WritesNearest digits q = (n : ℤ) × (rounded_text digits q ≡ decimal_text digits n) × IsNearestDecimal digits q n

-- units of 10^-digits read back as their number, where it is a quantity
abbrev pub ReadsBack : ℕ → ℤ → Type 0
ReadsBack digits n =
    IsQuantity (lowest_terms n (10 ^ digits)) → reading (decimal_text digits n) ≡ Ok (lowest_terms n (10 ^ digits))

-- no other decimal is nearest
abbrev pub HasOneNearest : ℕ → Fraction → Type 0
HasOneNearest digits q = (m n : ℤ) → IsNearestDecimal digits q m → IsNearestDecimal digits q n → m ≡ n

-- what is written is a number of JSON
abbrev pub WritesJsonNumber : ℕ → Fraction → Type 0
WritesJsonNumber digits q = IsNumber (rounded_text digits q)

-- where the fraction's own text has no more digits after the point, that text is what is written
abbrev pub WritesExactText : ℕ → Fraction → Type 0
WritesExactText digits q = (places : ℕ) → places_of q.denominator ≡ Some places → places ≤ digits
    → rounded_text digits q ≡ spelling q
